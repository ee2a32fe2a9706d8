use Rattle.std.proofs.Common.{◌≡◌, None, map}
use Rattle.dac_status.proofs.Common.{range_with_len, MAX_APPS, runner_of, placed}
use Rattle.dac_status.proofs.Places.{app_numbered}
use Rattle.dac_status.proofs.summary.runners_of.Given as goal

abbrev pub invariant-loop-number : goal.invariant-loop-number
invariant-loop-number l = l.runners ≡ placed MAX_APPS None (map (runner_of l.config l.state) (map app_numbered (range_with_len 0 l.number)))
