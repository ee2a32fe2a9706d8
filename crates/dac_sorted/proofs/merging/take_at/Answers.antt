use Rattle.std.proofs.Common.{◌∙◌, sym, ap}
use Rattle.std.specs.Ordering.{is_eq}
use Rattle.dac_sorted.proofs.JoinLemmas.{taken_none, taken_not, taken_one}
use Rattle.dac_sorted.proofs.merging.take_at.Goals as goal

pub returns-in_default : goal.returns-in_default
returns-in_default g c = taken_none g.K.Ord.cmp c.args.key c.args.theirs.now c.in_default.ensures

pub returns-then-not-is_eq : goal.returns-then-not-is_eq
returns-then-not-is_eq g c = taken_not g.K.Ord.cmp c.args.key c.args.theirs.now c.in-Some.field-0.now c.in-Some.ensures (sym (c.is_eq.ensures ∙ ap is_eq c.cmp.ensures) ∙ c.if-not-is_eq.true)

pub returns : goal.returns
returns g c = taken_one g.K.Ord.cmp c.args.key c.args.theirs.now c.pass.new.self c.in-Some.field-0.now c.in-Some.ensures (sym (c.is_eq.ensures ∙ ap is_eq c.cmp.ensures) ∙ c.if-not-is_eq.false) c.pass.ensures
