-- An entry put into a map, or removed from it, or in one part of it.
use Rattle.std.proofs.Common.{◌≡◌, ℕ, ◌+◌, ◌^◌, ◌<◌, ◌≤◌, zero, suc, true, false, cond, ◌&&◌, T, List, [], ◌∷◌, ◌++◌, Option, Some, None, length, get_or, take, drop, refl, sym, ap, subst, ◌∙◌, arith, ◌-◌, not}
use Rattle.std.specs.Prelude.{IfSome, is_some}
use Rattle.std.specs.declared.cmp.Ordering.{Ordering}
use Rattle.std.specs.declared.cmp.Ordering.TheVariants.{Less, Equal, Greater}
use Rattle.std.specs.Ordering.{is_lt, ordering_reverse, eq_by_cmp}
use Rattle.std.specs.Cmp.{IsTotalOrder}
use Rattle.std.specs.List.{flat_map, AllWithin}
use Rattle.std.specs.FinMap.{find, put}
use Rattle.std.specs.FinMap.Entries.{by_order, is_sorted-put, length-put, below_all, is_sorted-where_key, length_without}
use Rattle.std.proofs.lemmas.Bool.{false≢true, and_from, and_parts}
use Rattle.std.proofs.lemmas.List.{take_all}
use Rattle.std.proofs.lemmas.List.Folds.{list_all-append}
use Rattle.std.proofs.Math.Bool.{and-false}
use Rattle.dac_origins.specs.laws.KeyLaws.{greater}
use Rattle.dac_lattice.specs.Search.{IsInOrder, without}
use Rattle.dac_lattice.specs.laws.EntryLaws.{less, first, second}
use Rattle.dac_sorted.specs.Appending.{is_above_entries}
use Rattle.dac_sorted.specs.Parts.{IsCounted, IsPlaceOf, IsReplaced, changed}
use Rattle.dac_sorted.proofs.ReplaceLemmas.{replaced_all, split_at}
use Rattle.std.proofs.lemmas.List.Elements.{filter-append}
use Rattle.std.proofs.lemmas.Map.Lookups.{CmpEqualImpliesEq}
use Rattle.dac_lattice.specs.laws.Without.{above_stay, kept}
use Rattle.dac_lattice.specs.laws.Entries.{below_more}
use Rattle.dac_sorted.specs.laws.Parted.{below_right, sorted_right}
use Rattle.dac_sorted.proofs.PartLemmas.{lower}

-- ---- an entry put into a part

module _ {K X : Type 0} {R : K → K → Ordering} (o : IsTotalOrder R) where
  -- behind entries below the key
  put_behind : (xs ys : List (K × X)) (k : K) (v : X) → is_above_entries R xs k ≡ true → xs ++ put R k v ys ≡ put R k v (xs ++ ys)
  put_behind [] ys k v h = refl
  put_behind (x ∷ xs) ys k v h =
      ap (λ l. x ∷ l) (put_behind xs ys k v (and_parts _ _ h).1)
      ∙ sym (ap (λ r. by_order r ((k, v) ∷ x ∷ xs ++ ys) ((x.0, v) ∷ xs ++ ys) (x ∷ put R k v (xs ++ ys))) (greater o x.0 k (less (R x.0 k) (subst T (sym (and_parts _ _ h).0) tt))))

  -- into entries that aren't all below the key
  put_within : (xs ys : List (K × X)) (k : K) (v : X) → is_above_entries R xs k ≡ false → put R k v xs ++ ys ≡ put R k v (xs ++ ys)
  put_within [] ys k v h = absurd (false≢true (sym h))
  put_within (x ∷ xs) ys k v h = elim (R k x.0) as (λ r. R k x.0 ≡ r → by_order r ((k, v) ∷ x ∷ xs) ((x.0, v) ∷ xs) (x ∷ put R k v xs) ++ ys ≡ by_order r ((k, v) ∷ x ∷ xs ++ ys) ((x.0, v) ∷ xs ++ ys) (x ∷ put R k v (xs ++ ys))) [
    | Less ↦ λ e. refl
    | Equal ↦ λ e. refl
    | Greater ↦ λ e. ap (λ l. x ∷ l) (put_within xs ys k v (sym (ap (λ r. is_lt r && is_above_entries R xs k) (o.antisymm x.0 k ∙ ap ordering_reverse e)) ∙ h))
  ] refl

  -- the number of entries then
  pub count_there : (m : List (K × X)) (k : K) (x v : X) (n : ℕ) → IsInOrder R m → Some x ≡ find R k m → n ≡ length m → n ≡ length (put R k v m)
  count_there m k x v n s is e = e ∙ sym (length-put R o k v m s ∙ ap (λ f. cond (is_some f) (length m) (length m + 1)) (sym is))

  pub count_new : (m : List (K × X)) (k : K) (v : X) (n : ℕ) → IsInOrder R m → None ≡ find R k m → n ≡ length m → n + 1 ≡ length (put R k v m)
  count_new m k v n s is e = ap (λ n. n + 1) e ∙ sym (length-put R o k v m s ∙ ap (λ f. cond (is_some f) (length m) (length m + 1)) (sym is))

  -- a map with the key
  pub counted_put : (m new : List (K × X)) (k : K) (v : X) (count : ℕ) → IsInOrder R m → count ≡ length (put R k v m) → count < 2 ^ 63 → new ≡ put R k v m → IsCounted R new count
  counted_put m new k v count s counted few is =
      subst (λ es. IsCounted R es count) (sym is) (record { in_order = is_sorted-put R o k v m s; counted = counted; few = few })

  pub some_put : (k : K) (v : X) (es : List (K × X)) → 0 < length (put R k v es)
  some_put k v [] = omega arith
  some_put k v (e ∷ es) = elim (R k e.0) as (λ r. 0 < length (by_order r ((k, v) ∷ e ∷ es) ((e.0, v) ∷ es) (e ∷ put R k v es))) [
    | Less ↦ omega arith
    | Equal ↦ omega arith
    | Greater ↦ omega arith
  ]

  module _ {B : Type 0} (value : B → List (K × X)) (k : K) where
    -- if the first blocks are below the key, so are their entries
    first_below : (blocks : List B) (i : ℕ) → i ≤ length blocks → AllWithin (λ b. is_above_entries R (value b) k ≡ true) blocks 0 i → is_above_entries R (flat_map value (take i blocks)) k ≡ true
    first_below blocks zero p below = refl
    first_below [] (suc i) p below = refl
    first_below (b ∷ blocks) (suc i) p below =
        list_all-append (λ (e : K × X). is_lt (R e.0 k)) (value b) (flat_map value (take i blocks))
        ∙ and_from _ _ (below 0 b (omega arith) (omega arith)) (first_below blocks i (omega arith) (λ j d q r. below (suc j) d (omega arith) (omega arith)))

    pub all_below : (blocks : List B) (i : ℕ) → length blocks ≤ i → IsPlaceOf R value k blocks i → is_above_entries R (flat_map value blocks) k ≡ true
    all_below blocks i p place = subst (λ l. is_above_entries R (flat_map value l) k ≡ true) (take_all i blocks p) (first_below blocks i place.within place.below)

    some_at : (blocks : List B) (i : ℕ) → i < length blocks → (b : B) × (b ≡ get_or blocks i b)
    some_at [] i p = absurd (omega arith)
    some_at (b ∷ blocks) zero p = (b, refl)
    some_at (b ∷ blocks) (suc i) p = some_at blocks i (omega arith)

    -- the block at the place isn't below the key
    pub not_below : (blocks : List B) (i : ℕ) → i < length blocks → IsPlaceOf R value k blocks i → is_above_entries R (flat_map value blocks) k ≡ false
    not_below blocks i p place =
        let at = some_at blocks i p in
        let before = flat_map value (take i blocks) in
        let after = flat_map value (drop (i + 1) blocks) in
        ap (λ l. is_above_entries R l k) (split_at value blocks i at.0 p at.1)
        ∙ list_all-append (λ (e : K × X). is_lt (R e.0 k)) before (value at.0 ++ after)
        ∙ ap (λ t. is_above_entries R before k && t) (list_all-append (λ (e : K × X). is_lt (R e.0 k)) (value at.0) after ∙ ap (λ t. t && is_above_entries R after k) (place.not_below at.0 p at.1))
        ∙ and-false (is_above_entries R before k)

-- ---- results of calls

pub some_if : (r : Option ℕ) (P Q : ℕ → Type 0) → IfSome r P → ((n : ℕ) → P n → Q n) → IfSome r Q
some_if None P Q p f = tt
some_if (Some n) P Q p f = f n p

module _ {K X : Type 0} {R : K → K → Ordering} (o : IsTotalOrder R) where
  -- the number of entries then
  pub count_less : (m : List (K × X)) (k : K) (n : ℕ) (x : X) → IsInOrder R m → Some x ≡ find R k m → n ≡ length m → n - 1 ≡ length (without R k m)
  count_less m k n x s is e =
      let sum : 1 + length (without R k m) ≡ length m = subst (λ f. cond (is_some f) 1 0 + length (without R k m) ≡ length m) (sym is) (length_without R o k m s) in
      omega (arith, sum, e)

  pub count_same : (m : List (K × X)) (k : K) (n : ℕ) → IsInOrder R m → None ≡ find R k m → n ≡ length m → n ≡ length (without R k m)
  count_same m k n s is e =
      let sum : 0 + length (without R k m) ≡ length m = subst (λ f. cond (is_some f) 1 0 + length (without R k m) ≡ length m) (sym is) (length_without R o k m s) in
      omega (arith, sum, e)

  -- one of several entries at most is removed
  some_stay : (m : List (K × X)) (k : K) → IsInOrder R m → 1 < length m → 0 < length (without R k m)
  some_stay m k s p =
      let sum = length_without R o k m s in
      elim (is_some (find R k m)) as (λ b. cond b 1 0 + length (without R k m) ≡ length m → 0 < length (without R k m)) [
        | true ↦ λ e. omega (arith, e, p)
        | false ↦ λ e. omega (arith, e, p)
      ] sum

  -- a map without the key
  pub counted_without : (m new : List (K × X)) (k : K) (had count : ℕ) → IsCounted R m had → count ≡ length (without R k m) → new ≡ without R k m → IsCounted R new count
  counted_without m new k had count before counted is =
      let sum = length_without R o k m before.in_order in
      let all = before.counted in
      let few = before.few in
      subst (λ es. IsCounted R es count) (sym is) (record {
        in_order = is_sorted-where_key R (λ x. not (eq_by_cmp R k x)) m before.in_order;
        counted = counted;
        few = elim (is_some (find R k m)) as (λ b. cond b 1 0 + length (without R k m) ≡ length m → count < 2 ^ 63) [
          | true ↦ λ e. omega (arith, e, all, few, counted)
          | false ↦ λ e. omega (arith, e, all, few, counted)
        ] sum;
      })

  -- behind entries below the key
  without_behind : (xs ys : List (K × X)) (k : K) → is_above_entries R xs k ≡ true → xs ++ without R k ys ≡ without R k (xs ++ ys)
  without_behind [] ys k h = refl
  without_behind (x ∷ xs) ys k h =
      ap (λ l. x ∷ l) (without_behind xs ys k (and_parts _ _ h).1)
      ∙ sym (kept R x (xs ++ ys) k (lower o x.0 k (and_parts _ _ h).0))

  module _ (exact : CmpEqualImpliesEq R) where
    -- entries after some that aren't all below the key are above it
    above_rest : (xs ys : List (K × X)) (k : K) → IsInOrder R (xs ++ ys) → is_above_entries R xs k ≡ false → T (below_all R k ys)
    above_rest [] ys k s h = absurd (false≢true (sym h))
    above_rest (x ∷ xs) ys k s h = elim (R x.0 k) as (λ r. R x.0 k ≡ r → T (below_all R k ys)) [
      | Less ↦ λ e. above_rest xs ys k (second _ _ s) (sym (ap (λ r. is_lt r && is_above_entries R xs k) e) ∙ h)
      | Equal ↦ λ e. subst (λ q. T (below_all R q ys)) (exact x.0 k e) (below_right R x.0 xs ys (first _ _ s))
      | Greater ↦ λ e. below_more o exact k x.0 ys (o.antisymm k x.0 ∙ ap ordering_reverse e) (below_right R x.0 xs ys (first _ _ s))
    ] refl

    -- from entries that aren't all below the key
    without_within : (xs ys : List (K × X)) (k : K) → IsInOrder R (xs ++ ys) → is_above_entries R xs k ≡ false → without R k xs ++ ys ≡ without R k (xs ++ ys)
    without_within xs ys k s h =
        ap (λ l. without R k xs ++ l) (sym (above_stay R ys k (above_rest xs ys k s h)))
        ∙ sym (filter-append (λ (e : K × X). not (eq_by_cmp R k e.0)) xs ys)

    -- ---- either of both

    changed_behind : (xs ys : List (K × X)) (k : K) (v : Option X) → is_above_entries R xs k ≡ true → xs ++ changed R k v ys ≡ changed R k v (xs ++ ys)
    changed_behind xs ys k None h = without_behind xs ys k h
    changed_behind xs ys k (Some v) h = put_behind o xs ys k v h

    pub changed_last : (xs ys whole : List (K × X)) (k : K) (v : Option X) → xs ++ ys ≡ whole → is_above_entries R xs k ≡ true → xs ++ changed R k v ys ≡ changed R k v whole
    changed_last xs ys whole k v is h = changed_behind xs ys k v h ∙ ap (changed R k v) is

    changed_within : (xs ys : List (K × X)) (k : K) (v : Option X) → IsInOrder R (xs ++ ys) → is_above_entries R xs k ≡ false → changed R k v xs ++ ys ≡ changed R k v (xs ++ ys)
    changed_within xs ys k None s h = without_within xs ys k s h
    changed_within xs ys k (Some v) s h = put_within o xs ys k v h

    pub changed_blocks : (xs ys whole new : List (K × X)) (k : K) (v : Option X) → xs ++ ys ≡ whole → IsInOrder R whole → is_above_entries R xs k ≡ false → new ≡ changed R k v xs → new ++ ys ≡ changed R k v whole
    changed_blocks xs ys whole new k v is s h made = ap (λ l. l ++ ys) made ∙ changed_within xs ys k v (subst (IsInOrder R) (sym is) s) h ∙ ap (changed R k v) is

    -- an entry is left
    pub some_changed : (m : List (K × X)) (k : K) (v : Option X) → IsInOrder R m → (v ≡ None → 1 < length m) → 0 < length (changed R k v m)
    some_changed m k None s several = some_stay m k s (several refl)
    some_changed m k (Some v) s several = some_put o k v m

    module _ {B : Type 0} (value : B → List (K × X)) (k : K) (v : Option X) where
      -- the entries of the first block that isn't below the key are replaced by the changed ones
      pub replaced_changed : (old new : List B) (i : ℕ) (b : B) → IsInOrder R (flat_map value old) → i < length old → b ≡ get_or old i b → IsPlaceOf R value k old i → IsReplaced value i (changed R k v (value b)) old new → flat_map value new ≡ changed R k v (flat_map value old)
      replaced_changed old new i b s p is place made =
          let before = flat_map value (take i old) in
          let after = flat_map value (drop (i + 1) old) in
          replaced_all value old new i (changed R k v (value b)) made
          ∙ ap (λ l. before ++ l) (changed_within (value b) after k v (sorted_right R before (value b ++ after) (subst (IsInOrder R) (split_at value old i b p is) s)) (place.not_below b p is))
          ∙ changed_behind before (value b ++ after) k v (first_below o value k old i place.within place.below)
          ∙ ap (changed R k v) (sym (split_at value old i b p is))
