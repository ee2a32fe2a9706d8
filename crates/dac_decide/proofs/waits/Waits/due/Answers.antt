use Rattle.std.proofs.Common.{◌≡◌, ◌↔◌, Bool, true, List, sym, ap, subst, ◌∙◌}
use Rattle.dac_decide.specs.FailoverWait.{Note, IsDue, is_due, is_due_by, is_due_with, noted_at, waits_of}
use Rattle.dac_decide.specs.laws.Due.{due_to_words}
use Rattle.dac_decide.specs.laws.Kept.{kept_is}
use Rattle.dac_decide.proofs.waits.Waits.due.Goals as goal
use Rattle.dac_decide.proofs.waits.Waits.due.Goals.{After-due_by}

kept : (c : After-due_by) → c.due_by.result ≡ is_due_with c.args.config.now (noted_at c.args.self.now c.args.app) c.args.state.now c.args.app c.args.now
kept c = c.due_by.ensures ∙ ap (λ verdict. is_due_by c.args.config.now (noted_at c.args.self.now c.args.app) c.args.state.now c.args.app c.args.now verdict) c.verdict-verdict.ensures.value

noted : (c : After-due_by) (notes : List Note) → c.args.self.now ≡ waits_of c.args.config.now notes → c.due_by.result ≡ is_due c.args.config.now notes c.args.state.now c.args.app c.args.now
noted c notes stands =
    kept c
    ∙ ap (λ noted. is_due_with c.args.config.now noted c.args.state.now c.args.app c.args.now)
    (ap (λ waits. noted_at waits c.args.app) stands ∙ kept_is c.args.config.now notes c.args.app c.requires)

pub returns-clause-value : goal.returns-clause-value
returns-clause-value c = λ notes stands. noted c notes stands

pub returns-clause-cases : goal.returns-clause-cases
returns-clause-cases c = λ notes stands.
    subst (λ (b : Bool). (b ≡ true) ↔ IsDue c.args.config.now notes c.args.state.now c.args.app c.args.now) (sym (noted c notes stands))
    (due_to_words c.args.config.now notes c.args.state.now c.args.app c.args.now)
