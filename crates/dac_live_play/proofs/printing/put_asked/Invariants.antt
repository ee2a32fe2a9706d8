use Rattle.std.proofs.Common.{◌≡◌, ◌++◌}
use Rattle.dac_live_play.proofs.Common.{callers_text}
use Rattle.dac_live_play.proofs.Lines.{texts}
use Rattle.dac_live_play.proofs.printing.put_asked.Given as goal

abbrev pub invariant-loop-number : goal.invariant-loop-number
invariant-loop-number l = l.text.items ≡ l.fn.text.items ++ texts (callers_text l.config l.lines l.answers) l.number
