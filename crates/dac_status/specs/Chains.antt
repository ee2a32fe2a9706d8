-- The nodes of each group as a chain.
use Rattle.std.specs.Prelude.{◌≡◌, ℕ, ◌+◌, ◌<◌, ◌≤◌, List, Option, Some, None, slice_index_or}
use Rattle.dac_base.specs.declared.limits.TheConstants.{MAX_NODES}

-- `to` is the group's first node from `from` on, or `count` if there is none, given the groups of the nodes below count
pub record IsNext (groups : List (Option ℕ)) (count group from to : ℕ) : Type 0 where
  pub past : from ≤ to
  pub within : to ≤ count
  pub none : (n : ℕ) → from ≤ n → n < to → slice_index_or groups n None ≡ Some group → ⊥
  pub there : to < count → slice_index_or groups to None ≡ Some group

-- From `from` on, `first` has each group's first node, and `next` the next one of each node's group.
pub record AreChains (groups : List (Option ℕ)) (count from : ℕ) (first next : List ℕ) : Type 0 where
  pub begins : (group : ℕ) → group < MAX_NODES → IsNext groups count group from (slice_index_or first group 0)
  pub goes_on : (group n : ℕ) → group < MAX_NODES → from ≤ n → n < count → slice_index_or groups n None ≡ Some group
      → IsNext groups count group (n + 1) (slice_index_or next n 0)
