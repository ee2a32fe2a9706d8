use Rattle.dac_script.specs.LiveFaults.{HasFault}
use Rattle.dac_script.specs.laws.Common.{SpellsLive}
use Rattle.dac_script.specs.laws.Comments.{only_comments}
use Rattle.dac_script.proofs.SpelledLines.{accepted}
use Rattle.dac_script.proofs.LiveLines.{live_lines_in_words}
use Rattle.dac_script.proofs.laws.accepted_live_lines_in_words.Goals as goal

pub returns : goal.returns
returns c = record { lines = live_lines_in_words; accepted = accepted SpellsLive HasFault; comments = only_comments SpellsLive HasFault }
