use Rattle.std.proofs.Common.{◌≡◌, ◌++◌, [], length}
use Rattle.dac_lattice.specs.Entries.{merge_entries}
use Rattle.dac_sorted.proofs.merging.put_rest.Given as goal

abbrev pub invariant-loop-other : goal.invariant-loop-other
invariant-loop-other g l =
    let f = g.C.Combine.combined l.how in
    l.built ++ merge_entries g.K.Ord.cmp f [] l.theirs ≡ l.initial.built ++ merge_entries g.K.Ord.cmp f [] l.initial.theirs

abbrev pub decreases-loop-other : goal.decreases-loop-other
decreases-loop-other g l = length l.theirs
