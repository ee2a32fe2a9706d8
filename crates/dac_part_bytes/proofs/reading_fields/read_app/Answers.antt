use Rattle.std.specs.Prelude.{◌<◌}
use Rattle.std.proofs.Common.{arith}
use Rattle.dac_part_bytes.proofs.Common.{exact_gives, found_call, again_call, app_at, app_bytes}
use Rattle.dac_part_bytes.proofs.Apps.{app_takes, app_again}
use Rattle.dac_part_bytes.proofs.reading_fields.read_app.Goals as goal

pub returns-clause-found : goal.returns-clause-found
returns-clause-found c =
    found_call (λ x. x) (app_at c.args.apps) app_bytes (λ app. app.0 < c.args.apps) (app_takes c.args.apps) c.args.reader c.read_app_below.result
    (exact_gives c.read_app_below.result (app_at c.args.apps c.args.reader) c.read_app_below.ensures.exact c.read_app_below.ensures.real)

pub returns-clause-again : goal.returns-clause-again
returns-clause-again c =
    again_call (λ x. x) (app_at c.args.apps) app_bytes (λ app. app.0 < c.args.apps) (app_again c.args.apps (omega (arith, c.ranges.apps.fits))) c.args.reader c.read_app_below.result
    (exact_gives c.read_app_below.result (app_at c.args.apps c.args.reader) c.read_app_below.ensures.exact c.read_app_below.ensures.real)
