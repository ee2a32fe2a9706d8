use Rattle.std.proofs.Common.{◌≡◌, ◌-◌}
use Rattle.dac_status.proofs.Common.{app_count, app_begun, no_app, app_summary}
use Rattle.dac_status.proofs.Places.{app_numbered, staged}
use Rattle.dac_status.proofs.summary.apps_of.Given as goal

abbrev pub invariant-loop-number : goal.invariant-loop-number
invariant-loop-number l = l.apps ≡ staged 64 no_app app_numbered (app_summary l.config l.state) (app_begun l.config l.state) l.number (app_count l.config - l.number)
