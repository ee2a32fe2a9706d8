use Rattle.std.proofs.Common.{◌<◌, length, rules}
use Rattle.dac_script.proofs.Told.{words_read}
use Rattle.dac_script.proofs.values.+read_words.Goals as goal

pub returns-clause-read : goal.returns-clause-read
returns-clause-read t c =
    let some : 0 < length c.args.roles.now = search rules in
    rw c.lesser.ensures (words_read c.args.config.now c.read_word.new.values c.read_words.new.values c.args.roles.now c.args.words.now _ _ c.in_ok-fault.fault c.in_ok-later.later c.requires.count some c.requires.distinct c.in_ok-fault.ensures.read c.in_ok-later.ensures.kept c.in_ok-later.ensures.read)
