use Rattle.std.proofs.Common.{take}
use Rattle.dac_lattice.specs.Search.{AtEachEntry, IsInOrder}
use Rattle.dac_store.specs.Below.{HasLaterKeys, IsBelowAt}
use Rattle.dac_store.proofs.below.are_below.Given as goal

abbrev pub invariant-loop-key : goal.invariant-loop-key
invariant-loop-key g l =
    let s = g.S.DotStore in
    record {
      below : AtEachEntry (IsBelowAt g.K.Ord.cmp s.nothing s.below l.initial.left l.heard l.other_heard) (take l.key-index l.part);
      in_order : IsInOrder g.K.Ord.cmp l.left;
      later : HasLaterKeys g.K.Ord.cmp (take l.key-index l.part) l.initial.left l.left;
    }
