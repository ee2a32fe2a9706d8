use Rattle.std.proofs.Common.{map, drop}
use Rattle.dac_config.specs.Canonical.{parted, group_text}
use Rattle.dac_config.proofs.Gaining.{Goes}
use Rattle.dac_config.proofs.config.text.put_groups.Given as goal

abbrev pub invariant-loop-group : goal.invariant-loop-group
invariant-loop-group g l =
    let text = group_text l.config.nodes in
    Goes g.S.Sink.holds l.initial.sink l.sink l.before (map text (map (λ group. group.items) (drop l.group-index l.groups))) (parted (map text (map (λ group. group.items) l.groups)))
