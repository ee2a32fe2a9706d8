use Rattle.std.proofs.Common.{◌∙◌, sym, ap, not}
use Rattle.std.specs.Ordering.{is_lt}
use Rattle.std.proofs.lemmas.Bool.{not-true}
use Rattle.dac_sorted.proofs.JoinLemmas.{past_first, past_none}
use Rattle.dac_sorted.proofs.merging.is_none_below.Goals as goal

pub returns-in-Some : goal.returns-in-Some
returns-in-Some g c e = past_first g.K.Ord.cmp c.args.key c.args.theirs.now c.in-Some.field-0.now c.in-Some.ensures (not-true _ (ap not (sym (c.is_lt.ensures ∙ ap is_lt c.cmp.ensures)) ∙ e))

pub returns-in-None : goal.returns-in-None
returns-in-None g c e = past_none g.K.Ord.cmp c.args.key c.args.theirs.now c.in-None.ensures
