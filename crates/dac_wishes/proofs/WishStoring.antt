-- Start wishes, in their stored form.
use Rattle.std.specs.Prelude.{◌≡◌, true, false, not, cond, ◌&&◌, ◌||◌, List, [], ◌∷◌, None, Some, is_some, refl}
use Rattle.std.proofs.Common.{sym, ap, ◌∙◌}
use Rattle.std.specs.List.{list_any}
use Rattle.std.specs.FinSet as set
use Rattle.std.specs.FinMap.{find}
use Rattle.std.proofs.lemmas.Bool.{false≢true, or_left, or_right}
use Rattle.dac_origins.specs.declared.dot.Dot.{Dot}
use Rattle.dac_origins.specs.Dots.{Dots, dot_cmp}
use Rattle.dac_lattice.specs.Chains.{IsAny}
use Rattle.dac_store.specs.Stores.{IsStoredBelow, join_stored}
use Rattle.dac_store.specs.laws.Stores.{causal_laws, both_ways}
use Rattle.dac_store.specs.DotSets.{IsSetBelow, join_sets, is_empty_set}
use Rattle.dac_store.specs.laws.DotSets.{set_laws, contains_join}
use Rattle.dac_store.specs.DotMaps.{has_in, store_at, IsKept, IsKeyedBelow, join_keyed}
use Rattle.dac_store.specs.laws.DotMaps.{keyed_laws, at_join}
use Rattle.dac_wishes.specs.declared.key.Key.{Key}
use Rattle.dac_wishes.specs.Keys.{key_cmp, same_key}
use Rattle.dac_wishes.specs.laws.Keys.{keys_total, exact_keys}
use Rattle.dac_wishes.specs.Writes.{Write, write, same_dot}
use Rattle.dac_wishes.specs.laws.KeyedWrites.{same_dot_itself}
use Rattle.dac_wishes.specs.WishesValue.{AreWishes, AreWishesBelow, WishesValue, join_wishes, is_wished, SomeStands}
use Rattle.dac_wishes.specs.laws.WishesValue.{known-join, standing-join, same_wishes}
use Rattle.dac_wishes.specs.StoredWishes.{StoredDots, AreStoredDots, writes_of, wishes_of}
use Rattle.dac_wishes.specs.StartsByKey.{starts_by_key}
use Rattle.dac_wishes.specs.laws.StartsByKey.{contains-writes_of, starts_again}
use Rattle.dac_wishes.specs.laws.Wished.{is_wished-some}

-- ---- stored dots are known

module _ (v : StoredDots) (u : AreStoredDots v) where
  pub stored_wishes : AreWishes (wishes_of v)
  stored_wishes w h = u.held w.dot (held_at v.store w.key w.dot (sym (contains-writes_of v.store u.store.in_order w) ∙ h))
    where
      held_at : (m : List (Key × Dots)) (key : Key) (d : Dot) → set.contains (store_at set.empty (find key_cmp key m)) d ≡ true → has_in set.contains m d ≡ true
      held_at [] key d h = absurd (false≢true (sym (set.contains-empty dot_cmp d) ∙ h))
      held_at (e ∷ m) key d h = elim (same_key key e.0) as (λ b. set.contains (store_at set.empty (cond b (Some e.1) (find key_cmp key m))) d ≡ true → (set.contains e.1 d || has_in set.contains m d) ≡ true) [
        | true ↦ λ h. or_left (set.contains e.1 d) (has_in set.contains m d) h
        | false ↦ λ h. or_right (set.contains e.1 d) (has_in set.contains m d) (held_at m key d h)
      ] h

-- ---- order and join

-- the order and the join of stored forms
abbrev pub IsStoredWishesBelow : StoredDots → StoredDots → Type 0
IsStoredWishesBelow = IsStoredBelow (IsKeyedBelow key_cmp set.empty IsSetBelow)

abbrev pub join_stored_wishes : StoredDots → StoredDots → StoredDots
join_stored_wishes = join_stored (join_keyed key_cmp set.empty is_empty_set join_sets)

module _ (v w : StoredDots) (a : AreStoredDots v) (b : AreStoredDots w) where
  -- stored forms of the same wishes are equal
  pub same_stored : wishes_of v ≡ wishes_of w → v ≡ w
  same_stored e =
      let stores = sym (starts_again v.store a.store) ∙ ap (λ (x : WishesValue). starts_by_key x.standing) e ∙ starts_again w.store b.store in
      λ i. record { store = stores i; context = (e i).known }

  here : (q : Write) → set.contains (writes_of v.store) q ≡ set.contains (store_at set.empty (find key_cmp q.key v.store)) q.dot
  here q = contains-writes_of v.store a.store.in_order q

  there : (q : Write) → set.contains (writes_of w.store) q ≡ set.contains (store_at set.empty (find key_cmp q.key w.store)) q.dot
  there q = contains-writes_of w.store b.store.in_order q

  pub below_if_stored : IsStoredWishesBelow v w → AreWishesBelow (wishes_of v) (wishes_of w)
  below_if_stored p = record { known = p.0; standing = λ q h k. here q ∙ p.1 q.key q.dot (sym (there q) ∙ h) k }

  pub stored_if_below : AreWishesBelow (wishes_of v) (wishes_of w) → IsStoredWishesBelow v w
  stored_if_below p = (p.known, λ key d h k. sym (here (write key d)) ∙ p.standing (write key d) (there (write key d) ∙ h) k)

  pub joined_stored : AreStoredDots (join_stored_wishes v w)
  joined_stored = (causal_laws (keyed_laws keys_total exact_keys set_laws)).closed v w a b

  -- the join of stored forms represents the join
  pub wishes_of-join : wishes_of (join_stored_wishes v w) ≡ join_wishes (wishes_of v) (wishes_of w)
  wishes_of-join = same_wishes (wishes_of (join_stored_wishes v w)) (join_wishes (wishes_of v) (wishes_of w)) (sym (known-join (wishes_of v) (wishes_of w))) (λ q.
      contains-writes_of (join_stored_wishes v w).store joined_stored.store.in_order q
      ∙ ap (λ s. set.contains s q.dot) (at_join keys_total exact_keys set_laws v.store v.context w.store w.context a.store b.store q.key)
      ∙ contains_join (store_at set.empty (find key_cmp q.key v.store)) v.context (store_at set.empty (find key_cmp q.key w.store)) w.context q.dot
      ∙ sym (λ i. (here q i && (there q i || not (set.contains w.context q.dot))) || (there q i && (here q i || not (set.contains v.context q.dot))))
      ∙ sym (standing-join (wishes_of v) (wishes_of w) q))

-- ---- wished keys

-- a set that isn't empty has a dot
some_dot : (s : Dots) → is_empty_set s ≡ false → (d : Dot) × (set.contains s d ≡ true)
some_dot s e = elim (set.items s) as (λ ks. ((q : Dot) → set.contains s q ≡ list_any (same_dot q) ks) → (d : Dot) × (set.contains s d ≡ true)) [
  | [] ↦ λ h. absurd (false≢true (sym e ∙ set_laws.bare s tt h))
  | d ∷ ds ↦ λ h. (d, h d ∙ or_left (same_dot d d) (list_any (same_dot d) ds) (same_dot_itself d))
] (set.contains-items s)

-- a stored key is wished
pub some_if_stored : (v : StoredDots) → AreStoredDots v → (key : Key) → is_some (find key_cmp key v.store) ≡ true → SomeStands key (wishes_of v)
some_if_stored v u key e = elim (find key_cmp key v.store) as (λ o. find key_cmp key v.store ≡ o → IsKept IsAny is_empty_set o → is_some o ≡ true → SomeStands key (wishes_of v)) [
  | None ↦ λ is kept e. absurd (false≢true e)
  | Some s ↦ λ is kept e.
      let d = some_dot s kept.1 in
      (d.0, contains-writes_of v.store u.store.in_order (write key d.0) ∙ ap (λ o. set.contains (store_at set.empty o) d.0) is ∙ d.1)
] refl (u.store.stores key) e

pub stored_if_some : (v : StoredDots) → AreStoredDots v → (key : Key) → SomeStands key (wishes_of v) → is_some (find key_cmp key v.store) ≡ true
stored_if_some v u key d = elim (find key_cmp key v.store) as (λ o. set.contains (store_at set.empty o) d.0 ≡ true → is_some o ≡ true) [
  | None ↦ λ h. absurd (false≢true (sym (set.contains-empty dot_cmp d.0) ∙ h))
  | Some s ↦ λ h. refl
] (sym (contains-writes_of v.store u.store.in_order (write key d.0)) ∙ d.1)

pub is_wished_stored : (v : StoredDots) → AreStoredDots v → (key : Key) → is_some (find key_cmp key v.store) ≡ is_wished key (wishes_of v)
is_wished_stored v u key = both_ways _ _
    (λ h. (is_wished-some key (wishes_of v)).1 (some_if_stored v u key h))
    (λ h. stored_if_some v u key ((is_wished-some key (wishes_of v)).0 h))

-- the stored form of no wishes
pub wishes_of-none : wishes_of (record { store = []; context = set.empty }) ≡ record { known = set.empty; standing = set.empty }
unfolding writes_of
wishes_of-none = refl
