use Rattle.std.proofs.Common.{Some, sym}
use Rattle.std.specs.Option.{option_copied}
use Rattle.dac_sorted.proofs.JoinLemmas.{with_taken}
use Rattle.dac_sorted.proofs.merging.put_merged.Goals as goal

pub returns-then-stays : goal.returns-then-stays
returns-then-stays g c =
    with_taken g.met.K.Ord.total (g.C.Combine.combined c.args.how.now) c.args.entry.now c.args.built.now c.append.new.self c.args.theirs.now c.take_at-taken.new.theirs (option_copied c.take_at-taken.result) (Some c.args.entry.now.1)
    c.requires c.take_at-taken.ensures (sym (c.stays.ensures c.if-stays.true)) (rw c.in_ok-copy.ensures at c.in_ok-append.ensures)

pub returns : goal.returns
returns g c =
    with_taken g.met.K.Ord.total (g.C.Combine.combined c.args.how.now) c.args.entry.now c.args.built.now c.put_kept.new.built c.args.theirs.now c.take_at-taken.new.theirs (option_copied c.take_at-taken.result) c.in_ok-kept.kept
    c.requires c.take_at-taken.ensures c.in_ok-kept.ensures c.in_ok-put_kept.ensures
