-- Writes at application keys, such as start wishes and permits, by key and the operation's dot.
use Rattle.std.specs.Prelude.{List, filter, map as list_map}
use Rattle.std.specs.declared.cmp.Ordering.{Ordering}
use Rattle.std.specs.Coded.{Coded}
use Rattle.std.specs.FinSet as set
use Rattle.dac_origins.specs.declared.dot.Dot.{Dot}
use Rattle.dac_origins.specs.Dots.{Dots}
use Rattle.dac_wishes.specs.declared.key.Key.{Key}
use Rattle.dac_wishes.specs.Keys.{key_cmp, same_key, coded_key}
use Rattle.dac_wishes.specs.KeyedWrites.{KeyedWrite, keyed_write, keyed_write_cmp, coded_keyed_write}
pub use Rattle.dac_wishes.specs.KeyedWrites.{same_dot}

-- the key written, and the dot of the operation
abbrev pub Write : Type 0
Write = KeyedWrite Key

-- writes ordered by key, then by dot
abbrev pub write_cmp : Write → Write → Ordering
write_cmp = keyed_write_cmp key_cmp

abbrev pub coded_write : Coded Write
coded_write = coded_keyed_write coded_key

-- a set of writes
abbrev pub Writes : Type 0
Writes = set.FinSet write_cmp

-- the write of the key by the operation with this dot
abbrev pub write : Key → Dot → Write
write key d = keyed_write key d

-- the dots of the writes at the key
abbrev pub dots_among : Key → List Write → List Dot
dots_among key ws = list_map (λ (w : Write). w.dot) (filter (λ (w : Write). same_key w.key key) ws)

-- the dots of the key's writes in the set
abbrev pub dots_at : Key → Writes → Dots
dots_at key writes = set.from_list (dots_among key (set.items writes))
