use Rattle.std.proofs.Common.{[], ◌∷◌, ◌++◌, None, sym, ap, ◌∙◌}
use Rattle.dac_decide.specs.laws.Kept.{kept_more}
use Rattle.dac_decide.proofs.waits.Waits.new.Goals as goal

pub loop-preserved : goal.loop-preserved
loop-preserved c = c.in_ok-push.ensures.items ∙ ap (λ l. l ++ None ∷ []) c.loop.invariant ∙ sym (kept_more [] c.loop.counter)
