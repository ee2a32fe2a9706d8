use Rattle.std.proofs.Common.{◌≡◌, ◌++◌}
use Rattle.dac_live_play.proofs.Common.{last_text}
use Rattle.dac_live_play.proofs.Lines.{texts}
use Rattle.dac_live_play.proofs.printing.put_pages.Given as goal

abbrev pub invariant-loop-number : goal.invariant-loop-number
invariant-loop-number l = l.text.items ≡ l.fn.text.items ++ texts (last_text l.config l.pages) l.number
