use Rattle.std.proofs.Common.{◌≡◌, ◌++◌}
use Rattle.dac_status.proofs.Common.{app_lines}
use Rattle.dac_status.proofs.Places.{app_numbered}
use Rattle.dac_status.proofs.Lines.{texts}
use Rattle.dac_status.proofs.pages.put_apps.Given as goal

abbrev pub invariant-loop-number : goal.invariant-loop-number
invariant-loop-number l = l.text.items ≡ l.fn.text.items ++ texts app_numbered (app_lines l.config l.summary.apps) l.number
