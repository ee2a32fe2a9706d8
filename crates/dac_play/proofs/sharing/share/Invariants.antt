use Rattle.std.proofs.Common.{◌≡◌, length, take}
use Rattle.dac_play.proofs.Common.{fold, after_telling, Leads}
use Rattle.dac_play.proofs.sharing.share.Given as goal

abbrev pub invariant-loop-pair : goal.invariant-loop-pair
invariant-loop-pair l = record {
  count : length l.world.nodes ≡ length l.fn.world.nodes;
  leads : Leads l.config l.fn.world (λ w. fold (after_telling l.config) w (take l.pair-index l.pair-items)) l.world;
}
