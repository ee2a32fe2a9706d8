use Rattle.std.proofs.Common.{length}
use Rattle.dac_script.proofs.values.+read_words.Given as goal

abbrev pub decreases-read_words : goal.decreases-read_words
decreases-read_words l = length l.roles.now
