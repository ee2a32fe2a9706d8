use Rattle.std.proofs.Common.{◌≡◌, ◌++◌, List, drop, take}
use Rattle.dac_lattice.specs.Entries.{merge_entries}
use Rattle.dac_sorted.proofs.merging.left_past.Given as goal

-- the entries so far stay unchanged, before the merge of the rest
abbrev pub invariant-loop-key : goal.invariant-loop-key
invariant-loop-key g l =
    let f = g.C.Combine.combined l.how in
    (xs : List (g.row.K.Denot × g.row.V.Denot)) → take l.key-index l.part ++ merge_entries g.K.Ord.cmp f (drop l.key-index l.part ++ xs) l.rest ≡ merge_entries g.K.Ord.cmp f (l.part ++ xs) l.theirs
