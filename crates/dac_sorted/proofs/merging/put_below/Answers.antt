use Rattle.std.proofs.Common.{◌++◌, ◌∙◌, ap, sym}
use Rattle.std.specs.Ordering.{is_lt}
use Rattle.dac_origins.specs.laws.InOrder.{less}
use Rattle.dac_lattice.specs.Entries.{merge_entry}
use Rattle.dac_sorted.proofs.JoinLemmas.{below_step, one_fewer, past_first, past_none}
use Rattle.dac_sorted.proofs.merging.put_below.Goals as goal

pub loop-other-preserved : goal.loop-other-preserved
loop-other-preserved g c =
    below_step g.met.K.Ord.total (g.C.Combine.combined c.args.how.now) c.args.key (λ x rest. c.args.built.now ++ merge_entry g.K.Ord.cmp (g.C.Combine.combined c.args.how.now) x rest c.args.theirs.now)
    c.loop-other.built c.put_kept.new.built c.loop-other.theirs c.pass.new.self c.in-Some.field-0.now c.in_ok-right.field-0
    c.in-Some.ensures (less _ (sym (c.is_lt.ensures ∙ ap is_lt c.cmp.ensures) ∙ c.if-not-is_lt.false)) c.in_ok-right.ensures c.in_ok-put_kept.ensures c.pass.ensures c.loop-other.invariant

pub loop-other-smaller : goal.loop-other-smaller
loop-other-smaller g c = one_fewer c.loop-other.theirs c.pass.new.self c.in-Some.field-0.now c.in-Some.ensures c.pass.ensures

pub returns-then-not-is_lt : goal.returns-then-not-is_lt
returns-then-not-is_lt g c = record {
  merged = c.loop-other.invariant;
  past = past_first g.K.Ord.cmp c.args.key c.loop-other.theirs c.in-Some.field-0.now c.in-Some.ensures (sym (c.is_lt.ensures ∙ ap is_lt c.cmp.ensures) ∙ c.if-not-is_lt.true);
}

pub returns : goal.returns
returns g c = record { merged = c.loop-other.invariant; past = past_none g.K.Ord.cmp c.args.key c.loop-other.theirs c.in_default.ensures }
