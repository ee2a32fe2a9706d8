-- The stored part of a log of deltas, which are numbered from 0. (Delta intervals are those of delta-state CRDTs.
-- Storing 256 is this project's own choice.)
use Rattle.std.specs.Prelude.{◌≡◌, ℕ, ◌+◌, ◌-◌, ◌≤◌, List, [], ◌∷◌, ◌++◌, length, drop, fold, min, cond, nat_lt, Option, Some, None, refl}
use Rattle.std.specs.List.{All}
use Rattle.dac_base.specs.declared.limits.TheConstants.{MAX_COUNTER}
use Rattle.dac_deltas.specs.declared.blocks.TheConstants.{MOST_LEVEL}
use Rattle.dac_deltas.specs.declared.buffer.TheConstants.{MAX_DELTAS}

-- the greatest number of stored deltas, and the level of the longest blocks, which have as many
pub the_limit : (MAX_DELTAS ≡ 256) × (MOST_LEVEL ≡ 8)
the_limit = (refl, refl)

-- the number of deltas ever pushed, the least stored number, and the stored deltas, the oldest first
pub record KeptDeltas (L : Type 0) : Type 0 where
  pub count : ℕ
  pub base : ℕ
  pub deltas : List L

-- the invariant of each buffer
pub record IsBuffer {L : Type 0} (is_value : L → Type 0) (k : KeptDeltas L) : Type 0 where
  pub numbered : k.base + length k.deltas ≡ k.count
  pub few : length k.deltas ≤ MAX_DELTAS
  pub countable : k.count ≤ MAX_COUNTER
  pub values : All is_value k.deltas

-- the newest deltas ds of the count
abbrev pub newest : {L : Type 0} → ℕ → List L → KeptDeltas L
newest count ds = record { count = count; base = count - length ds; deltas = ds }

-- ---- the effects of calls
-- the empty buffer
abbrev pub empty : {L : Type 0} → KeptDeltas L
empty = record { count = 0; base = 0; deltas = [] }

-- the buffer without its n oldest deltas
abbrev pub cut : {L : Type 0} → KeptDeltas L → ℕ → KeptDeltas L
cut k n = record { count = k.count; base = k.base + n; deltas = drop n k.deltas }

-- the buffer with one more delta, and at most 256 stored
abbrev pub pushed : {L : Type 0} → KeptDeltas L → L → KeptDeltas L
pushed k x =
    cut (record { count = k.count + 1; base = k.base; deltas = k.deltas ++ x ∷ [] }) (length k.deltas + 1 - MAX_DELTAS)

-- the buffer without the deltas below the number
abbrev pub trimmed : {L : Type 0} → KeptDeltas L → ℕ → KeptDeltas L
trimmed k n = cut k (min n k.count - k.base)

-- the deltas from number a on, if all of them are stored
abbrev pub numbered_from : {L : Type 0} → KeptDeltas L → ℕ → List L
numbered_from k a = drop (a - k.base) k.deltas

-- the join of the deltas from number a on, if all of them are stored
abbrev pub interval_of : {L : Type 0} → L → (L → L → L) → KeptDeltas L → ℕ → Option L
interval_of bottom join k a = cond (nat_lt a k.base) None (Some (fold join bottom (numbered_from k a)))

-- ---- joins
-- the value is the least that is above each of the deltas
pub record IsJoinOf {L : Type 0} (is_value : L → Type 0) (below : L → L → Type 0) (ds : List L)
    (joined : L) : Type 0 where
  pub value : is_value joined
  pub above : All (λ d. below d joined) ds
  pub least : (x : L) → is_value x → All (λ d. below d x) ds → below joined x
