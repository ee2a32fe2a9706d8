-- Start wishes by key, their stored form: the keys with standing wishes, each with their dots.
use Rattle.std.specs.Prelude.{List}
use Rattle.std.specs.FinSet as set
use Rattle.dac_origins.specs.Dots.{Dots}
use Rattle.dac_lattice.specs.Chains.{IsAny}
use Rattle.dac_store.specs.DotSets.{is_empty_set}
use Rattle.dac_store.specs.DotMaps.{IsKeyed}
use Rattle.dac_wishes.specs.declared.key.Key.{Key}
use Rattle.dac_wishes.specs.Keys.{key_cmp}
use Rattle.dac_wishes.specs.Writes.{Write, Writes, dots_at}
use Rattle.dac_wishes.specs.ByKey.{by_key, keys_in}

-- the keys that have a wish, in ascending order
unfoldable pub keys_of : Writes → List Key
keys_of writes = keys_in key_cmp (λ (w : Write). w.key) (set.items writes)

-- each key that has a wish, with the dots of its wishes
unfoldable pub starts_by_key : Writes → List (Key × Dots)
starts_by_key writes = by_key (λ k. dots_at k writes) (keys_of writes)

-- the invariant of the stored list: the keys are sorted, and each has dots
abbrev pub AreStarts : List (Key × Dots) → Type 0
AreStarts = IsKeyed key_cmp IsAny is_empty_set
