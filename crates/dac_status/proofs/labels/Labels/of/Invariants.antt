use Rattle.std.proofs.Common.{◌≡◌, map}
use Rattle.dac_status.proofs.Common.{range_with_len, label_text}
use Rattle.dac_status.proofs.Places.{node_numbered}
use Rattle.dac_status.proofs.labels.Labels.of.Given as goal

abbrev pub invariant-loop-number : goal.invariant-loop-number
invariant-loop-number l = map (λ label. label.items) l.labels.items ≡ map (label_text l.config) (map node_numbered (range_with_len 0 l.number))
