use Rattle.dac_decide.specs.laws.Lost.{lost_to, to_lost}
use Rattle.dac_decide.specs.laws.Rows.{noted, noted_to, to_noted}
use Rattle.dac_decide.specs.laws.Due.{due_to_words}
use Rattle.dac_decide.specs.laws.AllUp.{opening_is}
use Rattle.dac_decide.specs.laws.Kept.{length_waits, kept_is}
use Rattle.dac_decide.specs.laws.FailsOver.{lost_fails_over}
use Rattle.dac_decide.specs.laws.Early.{not_without_mandatory, not_before, begins_anew, returns_at_once, gives_up_late}
use Rattle.dac_decide.proofs.laws.waits_in_words.Goals as goal

pub returns-clause-lost : goal.returns-clause-lost
returns-clause-lost c = λ s app claim. (lost_to s app claim, to_lost s app claim)

pub returns-clause-rows : goal.returns-clause-rows
returns-clause-rows c = λ app notes claim since. (noted_to app notes (noted claim since), to_noted app notes claim since)

pub returns-clause-due : goal.returns-clause-due
returns-clause-due c = due_to_words

pub returns-clause-opening : goal.returns-clause-opening
returns-clause-opening c = opening_is

pub returns-clause-kept : goal.returns-clause-kept
returns-clause-kept c = λ table notes. (length_waits table notes, kept_is table notes)

pub returns-clause-fails_over : goal.returns-clause-fails_over
returns-clause-fails_over c = lost_fails_over

pub returns-clause-missing : goal.returns-clause-missing
returns-clause-missing c = not_without_mandatory

pub returns-clause-not_before : goal.returns-clause-not_before
returns-clause-not_before c = not_before

pub returns-clause-anew : goal.returns-clause-anew
returns-clause-anew c = begins_anew

pub returns-clause-returns : goal.returns-clause-returns
returns-clause-returns c = returns_at_once

pub returns-clause-gives_up : goal.returns-clause-gives_up
returns-clause-gives_up c = gives_up_late
