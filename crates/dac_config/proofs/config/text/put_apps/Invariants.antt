use Rattle.std.proofs.Common.{map, drop}
use Rattle.dac_config.specs.Canonical.{parted, app_text}
use Rattle.dac_config.proofs.Gaining.{Goes}
use Rattle.dac_config.proofs.config.text.put_apps.Given as goal

abbrev pub invariant-loop-at : goal.invariant-loop-at
invariant-loop-at g l =
    let text = app_text l.config.nodes in
    Goes g.S.Sink.holds l.initial.sink l.sink l.before (map text (drop l.at l.config.apps)) (parted (map text l.config.apps))
