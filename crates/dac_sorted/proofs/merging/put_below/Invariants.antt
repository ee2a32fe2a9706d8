use Rattle.std.proofs.Common.{◌≡◌, ◌++◌, List, length}
use Rattle.dac_lattice.specs.Entries.{merge_entry}
use Rattle.dac_sorted.proofs.merging.put_below.Given as goal

abbrev pub invariant-loop-other : goal.invariant-loop-other
invariant-loop-other g l =
    let f = g.C.Combine.combined l.how in
    (x : g.row.K.Denot × g.row.V.Denot) (rest : List (g.row.K.Denot × g.row.V.Denot) → List (g.row.K.Denot × g.row.V.Denot)) → x.0 ≡ l.key
    → l.built ++ merge_entry g.K.Ord.cmp f x rest l.theirs ≡ l.initial.built ++ merge_entry g.K.Ord.cmp f x rest l.initial.theirs

abbrev pub decreases-loop-other : goal.decreases-loop-other
decreases-loop-other g l = length l.theirs
