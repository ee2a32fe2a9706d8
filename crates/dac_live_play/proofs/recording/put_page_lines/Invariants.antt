use Rattle.std.proofs.Common.{◌≡◌, ◌++◌}
use Rattle.dac_live_play.proofs.Common.{page_line}
use Rattle.dac_live_play.proofs.Lines.{texts}
use Rattle.dac_live_play.proofs.recording.put_page_lines.Given as goal

abbrev pub invariant-loop-number : goal.invariant-loop-number
invariant-loop-number l = l.text.items ≡ l.fn.text.items ++ texts (page_line l.config l.placeholder) l.number
