use Rattle.std.proofs.Common.{true, false, refl, sym, ap, ◌∙◌, arith, length-set}
use Rattle.std.specs.FinMap as map
use Rattle.std.proofs.lemmas.Bool.{true≢false}
use Rattle.std.proofs.lemmas.List.{get_or-replicate}
use Rattle.dac_wishes.specs.DrainsValue.{origin, drains_at}
use Rattle.dac_board.specs.Grown.{NodeStays}
use Rattle.dac_board.proofs.Stays.{stays_once}
use Rattle.dac_board.proofs.moving.nodes_moved.Goals as goal

pub returns-then-is_still : goal.returns-then-is_still
returns-then-is_still c = λ node lt e. record {
  life = ap (λ lives. map.get lives node) (c.requires.lives c.if-is_still.true);
  drains = λ inc live. ap (drains_at (origin node inc)) (c.requires.drains c.if-is_still.true);
}

pub loop-place-init : goal.loop-place-init
loop-place-init c = record { long = refl; stays = λ node lt e. absurd (true≢false (sym (get_or-replicate 64 node.0 true false lt) ∙ e)) }

pub loop-place-preserved : goal.loop-place-preserved
loop-place-preserved c =
    let long = c.loop-place.invariant.long in
    let under = c.loop-place-test.true in
    let least = c.min-place-end.ensures in
    record {
      long = length-set c.loop-place.moved c.loop-place.place c.node_moves.result ∙ long;
      stays = stays_once (NodeStays c.args.old.now c.args.new.now) c.loop-place.moved c.loop-place.place c.node_moves.result c.loop-place.invariant.stays long (omega (arith, under, least)) c.node_moves.ensures;
    }

pub returns : goal.returns
returns c = c.loop-place.invariant.stays
