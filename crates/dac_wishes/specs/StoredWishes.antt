-- The stored form of start wishes: for each key a set of dots, paired with the context of the known dots.
use Rattle.std.specs.Prelude.{List, map as list_map}
use Rattle.std.specs.List.{flat_map}
use Rattle.std.specs.FinSet as set
use Rattle.dac_origins.specs.Dots.{Dots}
use Rattle.dac_lattice.specs.Chains.{IsAny}
use Rattle.dac_store.specs.Stores.{Stored, IsStored}
use Rattle.dac_store.specs.DotSets.{is_empty_set}
use Rattle.dac_store.specs.DotMaps.{has_in, IsKeyed}
use Rattle.dac_wishes.specs.declared.key.Key.{Key}
use Rattle.dac_wishes.specs.Keys.{key_cmp}
use Rattle.dac_wishes.specs.Writes.{Write, Writes, write}
use Rattle.dac_wishes.specs.WishesValue.{WishesValue}

-- the dots at each key, and the known dots
abbrev pub StoredDots : Type 0
StoredDots = Stored (List (Key × Dots))

-- the keys are sorted, each has dots, and each dot is known
abbrev pub AreStoredDots : StoredDots → Type 0
AreStoredDots = IsStored (IsKeyed key_cmp IsAny is_empty_set) (has_in set.contains)

-- the writes of a key by each of the dots
abbrev pub writes_at : Key → Dots → List Write
writes_at key ds = list_map (write key) (set.items ds)

-- the writes of each key by each of its dots
unfoldable pub writes_of : List (Key × Dots) → Writes
writes_of m = set.from_list (flat_map (λ (e : Key × Dots). writes_at e.0 e.1) m)

-- the start wishes that a stored form represents
abbrev pub wishes_of : StoredDots → WishesValue
wishes_of v = record { known = v.context; standing = writes_of v.store }
