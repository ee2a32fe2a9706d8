-- The pairs of nodes in an anti-entropy round.
use Rattle.std.specs.Prelude.{◌≡◌, ◌≢◌, ◌⊎◌, ◌↔◌, ◌<◌, not, ◌==◌, List, [], ◌∷◌, map, filter, flat_map}
use Rattle.std.specs.List.{AllByRecursion}
use Rattle.dac_base.specs.declared.NodeId.{NodeId}

-- the pairs of a node with every other one
abbrev pub pairs_of : List NodeId → NodeId → List (NodeId × NodeId)
pairs_of nodes from = map (λ to. (from, to)) (filter (λ to. not (to.0 == from.0)) nodes)

-- every ordered pair of two of these nodes
abbrev pub pairs : List NodeId → List (NodeId × NodeId)
pairs nodes = flat_map (pairs_of nodes) nodes

-- x is an item of the list
abbrev pub IsListed : {X : Type 0} → X → List X → Type 0
IsListed x [] = ⊥
IsListed x (y ∷ ys) = (x ≡ y) ⊎ IsListed x ys

-- each item comes before all later ones
abbrev pub IsOrdered : {X : Type 0} → (X → X → Type 0) → List X → Type 0
IsOrdered Before [] = Unit {0}
IsOrdered Before (x ∷ xs) = AllByRecursion (Before x) xs × IsOrdered Before xs

-- the order of pairs: by sender, then by receiver
abbrev pub ComesBefore : NodeId × NodeId → NodeId × NodeId → Type 0
ComesBefore pair other = (pair.0.0 < other.0.0) ⊎ ((pair.0 ≡ other.0) × (pair.1.0 < other.1.0))

-- Every running node ships once to every other running one, and no other pair occurs. The order is that of node
-- numbers, which is that of names.
pub record TellsEachOther (Runs : NodeId → Type 0) (pairs : List (NodeId × NodeId)) : Type 0 where
  pub each : (from to : NodeId) → IsListed (from, to) pairs ↔ (Runs from × (Runs to × (from ≢ to)))
  pub ordered : IsOrdered ComesBefore pairs
