-- The part of an append-only log of deltas from a base on. The calls of a buffer are calls of such a log.
use Rattle.std.specs.Prelude.{◌≡◌, ◌<◌, ◌≤◌, ℕ, ◌+◌, ◌-◌, List, [], ◌∷◌, ◌++◌, length, drop, fold, min, max, Some, None}
use Rattle.std.specs.List.{All}
use Rattle.dac_deltas.specs.KeptDeltas.{KeptDeltas, IsJoinOf, empty, pushed, trimmed, interval_of}
use Rattle.dac_deltas.specs.declared.buffer.TheConstants.{MAX_DELTAS}

-- the part of the log from the base on
abbrev pub kept_of : {L : Type 0} → ℕ → List L → KeptDeltas L
kept_of base log = record { count = length log; base = base; deltas = drop base log }

-- the part of the log from the base on, but at most the newest 256
abbrev pub newest_of : {L : Type 0} → ℕ → List L → KeptDeltas L
newest_of base log = kept_of (max base (length log - MAX_DELTAS)) log

-- a buffer begins as the empty log
abbrev pub EmptyIsOfNothing : Type 0 → Type 0
EmptyIsOfNothing L = ◌≡◌ {A = KeptDeltas L} empty (kept_of 0 [])

-- a push appends to the log, and drops all but the newest 256
abbrev pub PushesAppend : Type 0 → Type 0
PushesAppend L = (base : ℕ) (log : List L) (delta : L) → base ≤ length log
    → pushed (kept_of base log) delta ≡ newest_of base (log ++ delta ∷ [])

-- several pushes append to the log in order, and drop all but the newest 256
abbrev pub PushesAppendAll : Type 0 → Type 0
PushesAppendAll L = (base : ℕ) (log deltas : List L) → base ≤ length log → length log ≤ base + MAX_DELTAS
    → fold pushed (kept_of base log) deltas ≡ newest_of base (log ++ deltas)

-- a trim moves the base to the number, or to the end of the log, unless it is greater already
abbrev pub TrimsMoveTheBase : Type 0 → Type 0
TrimsMoveTheBase L =
    (base : ℕ) (log : List L) (n : ℕ) → trimmed (kept_of base log) n ≡ kept_of (max base (min n (length log))) log

module _ {L : Type 0} (bottom : L) (join : L → L → L) where
  -- an interval from the base on is the join of the log's deltas from its number on
  abbrev pub IntervalsAreOfTheLog : Type 0
  IntervalsAreOfTheLog = (base : ℕ) (log : List L) (a : ℕ) → base ≤ a
      → interval_of bottom join (kept_of base log) a ≡ Some (fold join bottom (drop a log))

  -- there is no interval from below the base
  abbrev pub DroppedHaveNone : Type 0
  DroppedHaveNone = (base : ℕ) (log : List L) (a : ℕ) → a < base → interval_of bottom join (kept_of base log) a ≡ None

-- the join of a log's deltas, one after another, is the least value above each of them
abbrev pub JoinsAreLeast : {L : Type 0} → (L → Type 0) → (L → L → Type 0) → (L → L → L) → L → Type 0
JoinsAreLeast {L} is_value below join bottom =
    (log : List L) → All is_value log → IsJoinOf is_value below log (fold join bottom log)
