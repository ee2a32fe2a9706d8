use Rattle.dac_in_form.proofs.MeaningForm.{may_issue}
use Rattle.dac_in_form.proofs.Runs.{runs_are_in_form}
use Rattle.dac_in_form.proofs.laws.runs_are_in_form.Goals as goal

pub returns : goal.returns
returns c =
    let parts = c.parts_of_meaning.ensures in
    runs_are_in_form (λ t os agree form. may_issue t os agree form parts.heard parts.known parts.permits parts.starts parts.lives parts.claims parts.drains parts.state) c.held_are_in_form.ensures
