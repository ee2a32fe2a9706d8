-- A cache at the places of nodes: for each node one of the acknowledged positions.
use Rattle.std.specs.Prelude.{◌≡◌, ◌≢◌, ℕ, List, slice_index_or, Option, None, Some}
use Rattle.std.specs.FinMap as map
use Rattle.dac_base.specs.declared.NodeId.{NodeId}
use Rattle.dac_deltas.specs.Numbers.{Numbers}
use Rattle.dac_peers.specs.declared.positions.Position.{Position}

-- the cached position of a place
abbrev pub noted : List (Option Position) → ℕ → Option Position
noted latest place = slice_index_or latest place None

-- a cached position was acknowledged by that incarnation of the node
abbrev pub AreLatest : Numbers → List (Option Position) → Type 0
AreLatest acked latest = (node : NodeId) (p : Position) → noted latest node.0 ≡ Some p
    → map.get acked (record { node = node; inc = p.inc }) ≡ Some p.number

-- this place has this position or none, and each other place is unchanged
pub record IsNoted (old : List (Option Position)) (place : ℕ) (position : Option Position) (new : List (Option Position)) : Type 0 where
  pub there : (p : Position) → noted new place ≡ Some p → position ≡ Some p
  pub others : (q : ℕ) → q ≢ place → noted new q ≡ noted old q
