use Rattle.std.proofs.Common.{◌≡◌, map}
use Rattle.dac_status.proofs.Common.{range_with_len, app_begun, placed, no_app, IsBefore, first_key}
use Rattle.dac_status.proofs.Places.{app_numbered}
use Rattle.dac_status.proofs.summary.apps_begun.Given as goal

abbrev pub invariant-loop-number : goal.invariant-loop-number
invariant-loop-number l = record {
  apps : l.apps ≡ placed 64 no_app (map (app_begun l.config l.state) (map app_numbered (range_with_len 0 l.number)));
  state : l.walk.state ≡ l.state;
  before : IsBefore (first_key l.number 0) l.walk;
}
