use Rattle.std.proofs.Common.{◌≡◌, length, map}
use Rattle.dac_config.proofs.Places.{ArePlacesBelow}
use Rattle.dac_config.proofs.config.number.places_of.Given as goal

abbrev pub invariant-loop-node : goal.invariant-loop-node
invariant-loop-node l = record {
  count : length l.places.items ≡ l.node;
  so_far : ArePlacesBelow l.node l.places.items (map (λ group. group.items) l.groups);
}
