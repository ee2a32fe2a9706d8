use Rattle.std.proofs.Common.{rules}
use Rattle.dac_tokens.proofs.Texts.{text_ends, text_spelled, text_stops}
use Rattle.dac_tokens.proofs.tokens.Tokens.new.Goals as goal

pub returns : goal.returns
returns c = record { read = search rules; end = text_ends c.args.text.now; spelled = text_spelled c.args.text.now; stopped = text_stops c.args.text.now }
