use Rattle.std.proofs.Common.{◌++◌, ap}
use Rattle.std.specs.Option.{option_copied}
use Rattle.dac_lattice.specs.Entries.{merge_entries}
use Rattle.dac_sorted.proofs.JoinLemmas.{passed_all, passed_more}
use Rattle.dac_sorted.proofs.merging.left_past.Goals as goal

pub loop-key-init : goal.loop-key-init
loop-key-init g c xs =
    let f = g.C.Combine.combined c.args.how.now in
    ap (λ l. merge_entries g.K.Ord.cmp f (c.args.part.now ++ xs) l) c.again-rest.ensures

pub loop-key-preserved : goal.loop-key-preserved
loop-key-preserved g c =
    let f = g.C.Combine.combined c.args.how.now in
    passed_more g.met.K.Ord.total f c.args.part.now c.args.theirs.now c.loop-key.rest c.take_at-taken.new.theirs c.loop-key.key-index c.loop-key-item.result (option_copied c.take_at-taken.result)
    c.loop-key-test.true c.loop-key-item.is (c.is_none_below.ensures c.if-not-is_none_below.false) c.take_at-taken.ensures (c.stays.ensures c.if-not-stays.false) c.loop-key.invariant

pub returns : goal.returns
returns g c =
    let f = g.C.Combine.combined c.args.how.now in
    passed_all g.met.K.Ord.total f c.args.part.now c.args.theirs.now c.loop-key.rest c.loop-key.key-index c.loop-key-test.false c.loop-key.invariant
