use Rattle.std.proofs.lemmas.Result.{IfOk-weaker}
use Rattle.dac_dots.proofs.NewsLemmas.{dots_changed, nothing_new, rows_tried}
use Rattle.dac_dots.proofs.context.Context.absorb_after.Goals as goal

pub invariant_of-self : goal.invariant_of-self
invariant_of-self g c =
    rows_tried _ c.in-Consecutive.span (g.S.LastStep.steps c.args.step.now) c.in-Consecutive.ensures.0 c.in-Consecutive.origin c.self.inside.rows c.alter.new.self c.args.target.now c.alter.new.target c.self.invariant c.alter.result c.alter.ensures.ok c.alter.ensures.err

pub returns-in_ok-take-in-Nothing-clause-ok : goal.returns-in_ok-take-in-Nothing-clause-ok
returns-in_ok-take-in-Nothing-clause-ok g c = (nothing_new c.args.self.now c.args.other.now c.in-Nothing.ensures, c.in_ok-take-in-Nothing.ensures.ok)

pub returns-in-Consecutive-clause-ok : goal.returns-in-Consecutive-clause-ok
returns-in-Consecutive-clause-ok g c =
    IfOk-weaker c.alter.result _ _ (λ done. dots_changed _ c.in-Consecutive.span (g.S.LastStep.steps c.args.step.now) c.in-Consecutive.ensures.0 c.in-Consecutive.origin c.self.inside.rows c.alter.new.self c.args.target.now c.alter.new.target c.self.invariant
    c.args.self.now c.args.other.now c.self.view_is c.in-Consecutive.ensures.1 done) c.alter.ensures.ok
