use Rattle.std.proofs.Common.{◌≤◌, length, take}
use Rattle.dac_live.proofs.Common.{AllWithin, beginning_of, IsPageOf}
use Rattle.dac_crews.specs.Journals.{EndsAt}
use Rattle.dac_live.proofs.histories.page_of_history.Given as goal

abbrev pub invariant-loop-i : goal.invariant-loop-i
invariant-loop-i l = record {
  ends : EndsAt (beginning_of l.config l.me 0) (take l.i l.records) l.node;
  within : l.next ≤ length l.reads;
  read : AllWithin (λ p. IsPageOf (beginning_of l.config l.me 0) l.records p.now) l.reads 0 l.next;
}
