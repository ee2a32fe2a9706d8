-- Laws of the definitions in `Writes`.
use Rattle.std.specs.Prelude.{◌≡◌, Bool, true, false, cond, ◌||◌, ◌&&◌, List, [], ◌∷◌, filter, map as list_map, refl}
use Rattle.std.proofs.Common.{ap, ◌∙◌, sym}
use Rattle.std.specs.List.{list_any}
use Rattle.std.specs.Ordering.{eq_by_cmp}
use Rattle.std.specs.Cmp.{IsTotalOrder}
use Rattle.std.specs.FinSet as set
use Rattle.std.proofs.lemmas.Map.Lookups.{CmpEqualImpliesEq}
use Rattle.dac_origins.specs.declared.dot.Dot.{Dot}
use Rattle.dac_origins.specs.laws.Dots.{dots_total}
use Rattle.dac_wishes.specs.declared.key.Key.{Key}
use Rattle.dac_wishes.specs.Keys.{key_cmp, same_key}
use Rattle.dac_wishes.specs.laws.Keys.{keys_total, exact_keys}
use Rattle.dac_wishes.specs.laws.KeyedWrites.{keyed_writes_total, exact_keyed_writes, same_keyed_write, at_keyed_write}
use Rattle.dac_wishes.specs.KeyedWrites.{same_dot}
use Rattle.dac_wishes.specs.Writes.{Write, Writes, dots_among, dots_at, write, write_cmp}

pub writes_total : IsTotalOrder write_cmp
writes_total = keyed_writes_total keys_total

pub exact_writes : CmpEqualImpliesEq write_cmp
exact_writes = exact_keyed_writes exact_keys

-- two writes are equal exactly if their keys and dots are
pub same_write : (w : Write) (key : Key) (d : Dot) → eq_by_cmp write_cmp w (write key d) ≡ (same_key w.key key && same_dot w.dot d)
same_write = same_keyed_write key_cmp

-- a key and a dot make a write exactly if they are its own
pub at_write : (key : Key) (d : Dot) (w : Write) → eq_by_cmp write_cmp (write key d) w ≡ (same_key w.key key && same_dot d w.dot)
at_write = at_keyed_write keys_total

-- ---- the dots at a key

-- equal tests have equal results on a list
pub list_any-alike : {X : Type 0} (p q : X → Bool) → ((x : X) → p x ≡ q x) → (xs : List X) → list_any p xs ≡ list_any q xs
list_any-alike p q h [] = refl
list_any-alike p q h (x ∷ xs) = λ i. h x i || list_any-alike p q h xs i

-- the write is at the key and has the dot
abbrev is_at : Key → Dot → Write → Bool
is_at key d w = same_key w.key key && same_dot d w.dot

-- a dot is among those of the writes at a key
dots_among-has : (key : Key) (d : Dot) (ws : List Write) → list_any (same_dot d) (dots_among key ws) ≡ list_any (is_at key d) ws
dots_among-has key d [] = refl
dots_among-has key d (w ∷ ws) = elim (same_key w.key key) as (λ b. list_any (same_dot d) (list_map (λ (w : Write). w.dot) (cond b (w ∷ filter (λ (w : Write). same_key w.key key) ws) (filter (λ (w : Write). same_key w.key key) ws))) ≡ ((b && same_dot d w.dot) || list_any (is_at key d) ws)) [
  | true ↦ ap (λ b. same_dot d w.dot || b) (dots_among-has key d ws)
  | false ↦ dots_among-has key d ws
]

-- a dot stands at a key exactly if the write of both is in the set
pub contains-dots_at : (key : Key) (writes : Writes) (d : Dot) → set.contains (dots_at key writes) d ≡ set.contains writes (write key d)
contains-dots_at key writes d =
    set.contains-from_list dots_total (dots_among key (set.items writes)) d
    ∙ dots_among-has key d (set.items writes)
    ∙ list_any-alike (is_at key d) (eq_by_cmp write_cmp (write key d)) (λ w. sym (at_write key d w)) (set.items writes)
    ∙ sym (set.contains-items writes (write key d))
