use Rattle.std.proofs.Common.{map, drop}
use Rattle.dac_config.specs.Canonical.{parted, node_name_text}
use Rattle.dac_config.proofs.Gaining.{Goes}
use Rattle.dac_config.proofs.config.text.put_members.Given as goal

abbrev pub invariant-loop-number : goal.invariant-loop-number
invariant-loop-number g l =
    let text = node_name_text l.config.nodes in
    Goes g.S.Sink.holds l.initial.sink l.sink l.before (map text (drop l.number-index l.group)) (parted (map text l.group))
