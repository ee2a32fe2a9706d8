-- Start wishes are well-formed exactly if their lists by key are.
use Rattle.std.specs.Prelude.{◌≡◌, ◌^◌, ◌<◌, ◌≤◌, true, false, List, [], ◌∷◌, length, nat_eq, Option, None, Some, refl}
use Rattle.std.proofs.Common.{sym, ap, subst, ◌∙◌, arith}
use Rattle.dac_part_bytes.proofs.Common.{is_eq, tied_itself, find, false≢true, or_left, Dot, Dots, dot_cmp, dots_total, exact_dots, IsRising, in_order, in_order-same, is_empty_set, Key, key_cmp, keys_total, starts_by_key, Table, IsKey, IsKnownDot, AreStartsInForm, Version}
use Rattle.std.specs.FinSet as set
use Rattle.std.proofs.lemmas.Bool.{true≢false}
use Rattle.std.proofs.lemmas.List.{map-id}
use Rattle.dac_origins.specs.Keys.{has_key}
use Rattle.dac_origins.specs.laws.InOrder.{in_order-rising, has_key-in_order}
use Rattle.dac_lattice.specs.Chains.{IsAny}
use Rattle.dac_store.specs.DotMaps.{store_at, IsKept}
use Rattle.dac_wishes.specs.laws.Keys.{exact_keys}
use Rattle.dac_wishes.specs.Writes.{Write, Writes, write, dots_at}
use Rattle.dac_wishes.specs.laws.Writes.{contains-dots_at}
use Rattle.dac_wishes.specs.StoredWishes.{writes_of}
use Rattle.dac_wishes.specs.StartsByKey.{AreStarts}
use Rattle.dac_wishes.specs.laws.StartsByKey.{contains-writes_of, dots_stored, are_starts, starts_again, writes_again}
use Rattle.dac_part_bytes.specs.KeyedForm.{IsKnownWrite}
use Rattle.dac_part_bytes.proofs.Entries.{sorted_of, rising_keys, all_has, has_all, found, all_found}
use Rattle.dac_part_bytes.proofs.KeyedLists.{IsKeyedDots, AreStartsByKey}
use Rattle.dac_part_bytes.proofs.InOrder.{no_dots, not_empty_set}

-- ---- sets and their dots in order

-- a set with dots isn't empty
has_dots : (s : Dots) → 1 ≤ length (in_order s) → is_empty_set s ≡ false
has_dots s h = ap is_empty_set (sym (in_order-same dots_total exact_dots s)) ∙ not_empty_set (in_order s) h

first_has : (d : Dot) (ds : List Dot) → has_key dot_cmp (d ∷ ds) d ≡ true
first_has d ds = or_left _ _ (ap is_eq (tied_itself dots_total d))

empty_is : is_empty_set (set.empty {R = dot_cmp}) ≡ true
empty_is = ap (λ n. nat_eq n 0) (set.len-empty dot_cmp)

-- one of the dots of a nonempty set
record HasSome (s : Dots) : Type 0 where
  one : Dot
  held : set.contains s one ≡ true
  some : 1 ≤ length (in_order s)

some_from : (s : Dots) (ds : List Dot) → in_order s ≡ ds → is_empty_set s ≡ false → HasSome s
some_from s [] e h =
    let none : set.empty {R = dot_cmp} ≡ s = ap (λ (ds : List Dot). set.from_list {R = dot_cmp} ds) (sym e) ∙ in_order-same dots_total exact_dots s in
    absurd (true≢false (sym empty_is ∙ ap is_empty_set none ∙ h))
some_from s (d ∷ ds) e h =
    record {
      one = d;
      held = sym (has_key-in_order dots_total exact_dots s d) ∙ ap (λ (ds : List Dot). has_key dot_cmp ds d) e ∙ first_has d ds;
      some = subst (λ (ds : List Dot). 1 ≤ length ds) (sym e) (omega arith);
    }

module _ (version : Version) (t : Table) (known : Dots) where
  -- ---- from the list by key

  module _ (m : List (Key × Dots)) (is : AreStartsByKey version t known m) where
    -- the entry of a key is well-formed
    at_key : (key : Key) (s : Dots) → find key_cmp key m ≡ Some s → IsKeyedDots version t known (key, s)
    at_key key s e = found keys_total exact_keys (IsKeyedDots version t known) m is.1 key s e

    kept_at : (key : Key) (v : Option Dots) → find key_cmp key m ≡ v → IsKept IsAny is_empty_set v
    kept_at key None e = tt
    kept_at key (Some s) e = (tt, has_dots s (at_key key s e).1.0.0)

    -- the list satisfies the invariant of start wishes
    are_kept : AreStarts m
    are_kept = record { in_order = sorted_of key_cmp m is.2; stores = λ key. kept_at key (find key_cmp key m) refl }

    -- the list is the one of its own start wishes
    pub list_again : starts_by_key (writes_of m) ≡ m
    list_again = starts_again m are_kept

    known_at : (w : Write) (v : Option Dots) → find key_cmp w.key m ≡ v → set.contains (store_at set.empty v) w.dot ≡ true → IsKnownWrite (IsKey version t) version t known w
    known_at w None e h = absurd (false≢true (sym (set.contains-empty dot_cmp w.dot) ∙ h))
    known_at w (Some s) e h =
        let at = at_key w.key s e in
        record { key = at.0; dot = has_all dots_total exact_dots (IsKnownDot version t known) (in_order s) at.1.1 w.dot (has_key-in_order dots_total exact_dots s w.dot ∙ h) }

    few_at : (key : Key) (v : Option Dots) → find key_cmp key m ≡ v → length (in_order (store_at set.empty v)) < 2 ^ 32
    few_at key None e = subst (λ (ds : List Dot). length ds < 2 ^ 32) no_dots (omega arith)
    few_at key (Some s) e = omega (arith, (at_key key s e).1.0.1)

    pub starts_in_form : AreStartsInForm version t known (writes_of m)
    starts_in_form = record {
      each = λ w h. known_at w (find key_cmp w.key m) refl (sym (contains-writes_of m are_kept.in_order w) ∙ h);
      keys = subst (λ (l : List (Key × Dots)). length l < 2 ^ 32) (sym list_again) is.0;
      dots = λ key. subst (λ (s : Dots). length (in_order s) < 2 ^ 32) (dots_stored m are_kept.in_order key) (few_at key (find key_cmp key m) refl);
    }

  -- ---- from the start wishes

  module _ (writes : Writes) (is : AreStartsInForm version t known writes) where
    -- the entry of a key in the list contains its dots
    stored_at : (key : Key) (s : Dots) → find key_cmp key (starts_by_key writes) ≡ Some s → s ≡ dots_at key writes
    stored_at key s e =
        ap (store_at set.empty) (sym e) ∙ dots_stored (starts_by_key writes) (are_starts writes).in_order key ∙ ap (dots_at key) (writes_again writes)

    stands : (key : Key) (s : Dots) → s ≡ dots_at key writes → (d : Dot) → set.contains s d ≡ true → IsKnownWrite (IsKey version t) version t known (write key d)
    stands key s same d h = is.each (write key d) (sym (ap (λ (s : Dots). set.contains s d) same ∙ contains-dots_at key writes d) ∙ h)

    keyed : (key : Key) (s : Dots) → find key_cmp key (starts_by_key writes) ≡ Some s → IsKeyedDots version t known (key, s)
    keyed key s e =
        let same = stored_at key s e in
        let kept : IsKept IsAny is_empty_set (Some s) = subst (IsKept IsAny is_empty_set) e ((are_starts writes).stores key) in
        let has = some_from s (in_order s) refl kept.1 in
        let few : length (in_order s) < 2 ^ 32 = subst (λ (s : Dots). length (in_order s) < 2 ^ 32) (sym same) (is.dots key) in
        let each = all_has dots_total exact_dots (IsKnownDot version t known) (in_order s)
        (λ d h. (stands key s same d (sym (has_key-in_order dots_total exact_dots s d) ∙ h)).dot) in
        let rising = subst (λ (ds : List Dot). IsRising dot_cmp ds) (sym (map-id (in_order s))) (in_order-rising dots_total exact_dots s) in
        ((stands key s same has.one has.held).key, ((has.some, omega (arith, few)), each, rising))

    -- their list by key is well-formed
    pub list_in_form : AreStartsByKey version t known (starts_by_key writes)
    list_in_form =
        let sorted = (are_starts writes).in_order in
        (is.keys, all_found keys_total exact_keys (IsKeyedDots version t known) (starts_by_key writes) sorted keyed, rising_keys key_cmp (starts_by_key writes) sorted)
