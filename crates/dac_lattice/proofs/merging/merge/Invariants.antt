use Rattle.std.proofs.Common.{length, drop, ◌+◌, ◌-◌, ◌≡◌, ◌≤◌, ◌++◌}
use Rattle.dac_lattice.specs.Entries.{merge_entries}
use Rattle.dac_lattice.proofs.merging.merge.Given as goal

-- the merged entries followed by the merge of the rest are the whole merge
abbrev pub invariant-both : goal.invariant-both
invariant-both g l =
    let merge = merge_entries g.K.Ord.cmp (g.C.Combine.combined l.how) in
    record {
      so_far : l.merged.items ++ merge (drop l.i l.mine) (drop l.j l.theirs) ≡ merge l.mine l.theirs;
      first : l.i ≤ length l.mine;
      second : l.j ≤ length l.theirs;
    }

abbrev pub decreases-both : goal.decreases-both
decreases-both g l = (length l.mine - l.i) + (length l.theirs - l.j)
