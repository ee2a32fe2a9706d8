-- The seats of a node, in order.
use Rattle.std.specs.Prelude.{◌≡◌, ◌≤◌, ◌==◌, ◌+◌, ◌*◌, ℕ, zero, suc, List, [], ◌∷◌, flat_map, if◌then◌else◌}
use Rattle.dac_phases.specs.Pairs.{shipper_seat, worker_seat}

-- this many consecutive numbers, starting with `first`
abbrev pub numbers_from : ℕ → ℕ → List ℕ
numbers_from first zero = []
numbers_from first (suc n) = first ∷ numbers_from (suc first) n

-- the seats for another node: the shipper's and the link worker's; none for the node itself
abbrev pub seats_for : ℕ → ℕ → List ℕ
seats_for me other = if other == me then [] else shipper_seat me other ∷ worker_seat me other ∷ []

-- all seats of a node of a cluster with this many nodes: those of callers 1 to 4, and those for the other nodes
abbrev pub seats_of : ℕ → ℕ → List ℕ
seats_of nodes me = 1 ∷ 2 ∷ 3 ∷ 4 ∷ flat_map (seats_for me) (numbers_from 0 nodes)

-- At each node, with any number of others, the seats are the numbers from 1 in order: four, and two for each other
-- node. Therefore no two workers share a seat.
abbrev pub AreInOrder : Type 0
AreInOrder = (others me : ℕ) → me ≤ others → seats_of (suc others) me ≡ numbers_from 1 (2 * others + 4)
