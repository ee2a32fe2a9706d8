use Rattle.std.proofs.Common.{◌++◌, []}
use Rattle.dac_lattice.specs.Entries.{merge_entries}
use Rattle.dac_sorted.proofs.JoinLemmas.{alone_step, merged_none, one_fewer}
use Rattle.dac_sorted.proofs.merging.put_rest.Goals as goal

pub loop-other-preserved : goal.loop-other-preserved
loop-other-preserved g c =
    alone_step g.met.K.Ord.total (g.C.Combine.combined c.args.how.now) (c.args.built.now ++ merge_entries g.K.Ord.cmp (g.C.Combine.combined c.args.how.now) [] c.args.theirs.now)
    c.loop-other.built c.put_kept.new.built c.loop-other.theirs c.pass.new.self c.in-Some.field-0.now c.in_ok-right.field-0
    c.in-Some.ensures c.in_ok-right.ensures c.in_ok-put_kept.ensures c.pass.ensures c.loop-other.invariant

pub loop-other-smaller : goal.loop-other-smaller
loop-other-smaller g c = one_fewer c.loop-other.theirs c.pass.new.self c.in-Some.field-0.now c.in-Some.ensures c.pass.ensures

pub returns : goal.returns
returns g c =
    merged_none g.K.Ord.cmp (g.C.Combine.combined c.args.how.now) c.loop-other.built c.loop-other.theirs (c.args.built.now ++ merge_entries g.K.Ord.cmp (g.C.Combine.combined c.args.how.now) [] c.args.theirs.now)
    c.in_default.ensures c.loop-other.invariant
