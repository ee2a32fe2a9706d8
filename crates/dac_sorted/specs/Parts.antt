-- Entries stored in blocks.
use Rattle.std.specs.Prelude.{◌≡◌, ℕ, ◌<◌, ◌≤◌, ◌+◌, ◌^◌, ◌++◌, false, true, List, Option, None, Some, length, take, drop, get_or}
use Rattle.std.specs.List.{All, AllWithin, flat_map}
use Rattle.std.specs.declared.cmp.Ordering.{Ordering}
use Rattle.std.specs.Ordering.{is_lt}
use Rattle.std.specs.FinMap.{find, put}
use Rattle.dac_lattice.specs.Search.{IsInOrder, without}
use Rattle.dac_sorted.specs.Appending.{is_above_entries}

-- no block is empty
abbrev pub HaveEntries : {B E : Type 0} → (B → List E) → List B → Type 0
HaveEntries value blocks = All (λ b. 0 < length (value b)) blocks

-- the part of the entries that contains the key, or would contain it
pub record IsPartAt {K X : Type 0} (R : K → K → Ordering) (key : K) (whole part : List (K × X)) : Type 0 where
  pub in_order : IsInOrder R part
  pub found : find R key part ≡ find R key whole
  pub above : is_above_entries R part key ≡ is_above_entries R whole key

-- the index of the first block that isn't below the key, or the number of blocks
pub record IsPlaceOf {K X B : Type 0} (R : K → K → Ordering) (value : B → List (K × X)) (key : K) (blocks : List B)
    (place : ℕ) : Type 0 where
  pub within : place ≤ length blocks
  pub below : AllWithin (λ b. is_above_entries R (value b) key ≡ true) blocks 0 place
  pub not_below : (b : B) → place < length blocks → b ≡ get_or blocks place b → is_above_entries R (value b) key ≡ false

-- the block at this index is replaced by others, whose entries these are; a block after it can be among the old ones
pub record IsReplaced {B E : Type 0} (value : B → List E) (place : ℕ) (entries : List E) (old new : List B) : Type 0 where
  pub before : take place new ≡ take place old
  pub after : flat_map value (drop place new) ≡ entries ++ flat_map value (drop (place + 1) old)

-- a value is put at the key, or without a value the key is removed
abbrev pub changed : {K X : Type 0} → (K → K → Ordering) → K → Option X → List (K × X) → List (K × X)
changed R key None m = without R key m
changed R key (Some value) m = put R key value m

-- the entries are changed, or the value is left and they are the same
abbrev pub IsChangedUnless : {K X : Type 0} → (K → K → Ordering) → K → Option X → List (K × X) → List (K × X) → Option (Option X)
    → Type 0
IsChangedUnless R key value old new None = new ≡ changed R key value old
IsChangedUnless R key value old new (Some left) = (left ≡ value) × (new ≡ old)

-- the entries are in order, and this is their number, which is small
pub record IsCounted {K V : Type 0} (R : K → K → Ordering) (m : List (K × V)) (count : ℕ) : Type 0 where
  pub in_order : IsInOrder R m
  pub counted : count ≡ length m
  pub few : count < 2 ^ 63

-- both lists have the same values at each key from this one on
abbrev pub HasSameFrom : {K X : Type 0} → (K → K → Ordering) → K → List (K × X) → List (K × X) → Type 0
HasSameFrom {K} R key old new = (k : K) → is_lt (R k key) ≡ false → find R k new ≡ find R k old
