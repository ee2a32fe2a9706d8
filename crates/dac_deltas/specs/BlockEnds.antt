-- A stored delta with the joins of blocks that end with it, as far as they are made. The pair is called an ending.
use Rattle.std.specs.Prelude.{◌≡◌, ℕ, ◌+◌, ◌-◌, ◌≤◌, ◌<◌, ◌^◌, List, ◌∷◌, length, map, fold, take, drop, slice_index_or, Option, Some, None}
use Rattle.dac_base.specs.declared.limits.TheConstants.{MAX_COUNTER}
use Rattle.dac_deltas.specs.KeptDeltas.{KeptDeltas, IsBuffer, newest, numbered_from}

-- the deltas of the endings
abbrev pub deltas_of : {L : Type 0} → List (L × List L) → List L
deltas_of es = map (λ e. e.0) es

-- the join of the 2^level deltas up to this one
abbrev pub join_at : {L : Type 0} → L × List L → ℕ → L
join_at e level = slice_index_or (e.0 ∷ e.1) level e.0

module _ {L : Type 0} (is_value : L → Type 0) (join : L → L → L) where
  -- x is a value, and joining it equals joining the deltas ds one after another
  pub record IsJoinOfDeltas (x : L) (ds : List L) : Type 0 where
    pub value : is_value x
    pub same : (y : L) → is_value y → fold join y ds ≡ join y x

  -- the joins of an ending, whose delta is the last of ds, are those of the last 2, 4, .. deltas of ds. It can have
  -- joins of more deltas, made before the oldest were dropped
  abbrev pub HasJoins : List L → L × List L → Type 0
  HasJoins ds e = (k : ℕ) → k ≤ length e.1 → 2 ^ k ≤ length ds
      → IsJoinOfDeltas (join_at e k) (drop (length ds - 2 ^ k) ds)

  -- the joins of each ending are right
  abbrev pub AreJoined : List (L × List L) → Type 0
  AreJoined es = (i : ℕ) (d : L × List L) → i < length es
      → HasJoins (take (i + 1) (deltas_of es)) (slice_index_or es i d)

  -- the ending has joins up to the level, and `joined` is the next one
  abbrev pub IsNextJoin : List (L × List L) → ℕ → ℕ → L × List L → L → Type 0
  IsNextJoin es i level e joined = e ≡ slice_index_or es i e
      → (length e.1 ≡ level) × IsJoinOfDeltas joined (drop (i + 1 - 2 ^ (level + 1)) (take (i + 1) (deltas_of es)))

  -- a buffer's contents: the newest deltas of the count, with joins of their blocks
  pub record IsKept (count : ℕ) (es : List (L × List L)) : Type 0 where
    pub buffer : IsBuffer is_value (newest count (deltas_of es))
    pub joined : AreJoined es

module _ {L : Type 0} (join : L → L → L) (bottom : L) where
  -- a cached interval with its first number: while all deltas from there on are stored, it is their join
  abbrev pub IsReady : KeptDeltas L → Option (ℕ × L) → Type 0
  IsReady k None = Unit {0}
  IsReady k (Some made) = k.base ≤ made.0 → made.1 ≡ fold join bottom (numbered_from k made.0)

-- a buffer's contents, with the cached interval, if any
pub record IsHeld {L : Type 0} (is_value : L → Type 0) (join : L → L → L) (bottom : L) (count : ℕ)
    (es : List (L × List L)) (made : Option (ℕ × L)) : Type 0 where
  pub kept : IsKept is_value join count es
  pub ready : IsReady join bottom (newest count (deltas_of es)) made

-- a buffer's contents, with a delta about to be pushed
pub record IsStaged {L : Type 0} (is_value : L → Type 0) (join : L → L → L) (bottom : L) (count : ℕ)
    (es : List (L × List L)) (made : Option (ℕ × L)) (delta : L) : Type 0 where
  pub held : IsHeld is_value join bottom count es made
  pub value : is_value delta
  pub countable : count < MAX_COUNTER
