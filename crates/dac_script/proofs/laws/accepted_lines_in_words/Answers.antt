use Rattle.dac_script.specs.laws.Common.{Spells}
use Rattle.dac_script.specs.LineFaults.{HasFault}
use Rattle.dac_script.specs.laws.Comments.{only_comments}
use Rattle.dac_script.specs.laws.Divided.{divided_in_words}
use Rattle.dac_script.specs.laws.Spaces.{only_spaces, words_in_words}
use Rattle.dac_script.proofs.SpelledLines.{accepted, lines_in_words}
use Rattle.dac_script.proofs.laws.accepted_lines_in_words.Goals as goal

pub returns : goal.returns
returns c = record {
  words = words_in_words;
  lines = lines_in_words;
  accepted = accepted Spells HasFault;
  spaces = only_spaces;
  comments = only_comments Spells HasFault;
  divided = divided_in_words;
}
