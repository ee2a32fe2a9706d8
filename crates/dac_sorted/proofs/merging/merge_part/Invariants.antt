use Rattle.std.proofs.Common.{◌≡◌, ◌++◌, List, drop}
use Rattle.dac_lattice.specs.Entries.{merge_entries}
use Rattle.dac_sorted.proofs.merging.merge_part.Given as goal

abbrev pub invariant-loop-entry : goal.invariant-loop-entry
invariant-loop-entry g l =
    let f = g.C.Combine.combined l.how in
    (xs : List (g.row.K.Denot × g.row.V.Denot)) → l.built ++ merge_entries g.K.Ord.cmp f (drop l.entry-index l.part ++ xs) l.theirs ≡ l.initial.built ++ merge_entries g.K.Ord.cmp f (l.part ++ xs) l.initial.theirs
