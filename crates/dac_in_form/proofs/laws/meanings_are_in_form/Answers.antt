use Rattle.dac_in_form.proofs.MeaningForm.{meaning_in_form}
use Rattle.dac_in_form.proofs.laws.meanings_are_in_form.Goals as goal

pub returns : goal.returns
returns c = λ t os small agree form.
    let parts = c.parts_of_meaning.ensures in
    meaning_in_form t os agree form parts.heard parts.known parts.permits parts.starts parts.lives parts.claims parts.drains parts.state small
