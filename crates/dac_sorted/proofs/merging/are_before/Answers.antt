use Rattle.std.proofs.Common.{◌∙◌, sym}
use Rattle.dac_sorted.proofs.JoinLemmas.{before_first, before_none}
use Rattle.dac_sorted.proofs.merging.are_before.Goals as goal

pub returns-in-Some : goal.returns-in-Some
returns-in-Some g c e = before_first g.K.Ord.cmp c.args.part.now c.args.theirs.now c.in-Some.field-0.now c.in-Some.ensures (sym c.ends_below.ensures ∙ e)

pub returns-in-None : goal.returns-in-None
returns-in-None g c e = before_none g.K.Ord.cmp c.args.part.now c.args.theirs.now c.in-None.ensures
