-- One step of the merge of two maps: the entries taken, their combination, and the remaining entries.
use Rattle.std.proofs.Common.{◌≡◌, ℕ, ◌+◌, ◌-◌, ◌<◌, ◌≤◌, ◌⊎◌, inl, inr, List, [], ◌∷◌, ◌++◌, length, drop, Option, None, Some, Result, OnOk, IsOkAnd, IfOk, refl, sym, ap, subst, ◌∙◌, arith, add-one, drop-cons, append_assoc, append-nil}
use Rattle.std.specs.Borrow.{Bor}
use Rattle.std.specs.Int.{from_bool}
use Rattle.std.specs.Option.{is_some, option_copied}
use Rattle.std.specs.Slice.{IsItemAt}
use Rattle.std.specs.declared.cmp.Ordering.{Ordering}
use Rattle.std.specs.declared.cmp.Ordering.TheVariants.{Less, Equal, Greater}
use Rattle.std.specs.FinMap.Entries.{by_order}
use Rattle.std.proofs.lemmas.List.{drop_all}
use Rattle.dac_lattice.specs.Entries.{Combine, keep, merge_entries}
use Rattle.dac_lattice.specs.Merges.{lowest_of, keep_lowest}

-- the element at an index, followed by those after it, if there is one
abbrev IsNext : {E : Type 0} → List E → ℕ → Option E → Type 0
IsNext xs i None = length xs ≤ i
IsNext xs i (Some e) = (i < length xs) × (drop i xs ≡ e ∷ drop (i + 1) xs)

next_from : {E : Type 0} (xs : List E) (i : ℕ) (r : Option (Bor E)) → IsItemAt xs i r → IsNext xs i (option_copied r)
next_from xs i None at = at.3
next_from xs i (Some e) at =
    let here = at.3 in
    (here.0, drop-cons xs i e.now here.0 ∙ (λ k. sym (here.1 e.now) k ∷ ap (λ n. drop n xs) (sym (add-one i)) k))

-- the number of entries taken
abbrev taken : {E : Type 0} → Option E → ℕ
taken o = from_bool (is_some o)

taken_copied : {E : Type 0} (r : Option (Bor E)) → from_bool (is_some r) ≡ taken (option_copied r)
taken_copied r = grind arith

stays : {E : Type 0} (xs : List E) (i : ℕ) → drop i xs ≡ drop (i + 0) xs
stays xs i = ap (λ n. drop n xs) (same i)
  where
    same : (i : ℕ) → i ≡ i + 0
    same i = omega arith

pub fewer_left : (l m i j n k : ℕ) → i + n ≤ l → j + k ≤ m → 1 ≤ n + k → (l - (i + n)) + (m - (j + k)) < (l - i) + (m - j)
fewer_left l m i j n k p q r = omega arith

keep_before : {K X : Type 0} (k : K) (v : Option X) (es : List (K × X)) → keep k v [] ++ es ≡ keep k v es
keep_before k v es = grind arith

-- the entries with the lowest key, from the comparison of two keys
pub lowest_so : {K X : Type 0} (R : K → K → Ordering) (x y : K × X) (r : Ordering) → r ≡ R x.0 y.0 → by_order r (Some x, None) (Some x, Some y) (None, Some y) ≡ lowest_of R (Some x) (Some y)
lowest_so R x y r e = ap (λ r. by_order r (Some x, None) (Some x, Some y) (None, Some y)) e

-- a property of the value of a successful call, if that value is known
pub where_made : {U V E F : Type 0} (r : Result U F) (made : Result V E) (P : V → Type 0) (v : V) → OnOk r (IsOkAnd made P) → IfOk made (λ u. u ≡ v) → OnOk r (P v)
where_made r made P v h e = grind arith

module _ {K X : Type 0} (R : K → K → Ordering) (f : Combine K X) where
  -- the merge of the entries from these indices on
  abbrev left : List (K × X) → List (K × X) → ℕ → ℕ → List (K × X)
  left xs ys i j = merge_entries R f (drop i xs) (drop j ys)

  -- a step from the indices i and j: it takes n and m entries, and appends the combination of a and b
  pub record IsStep (xs ys : List (K × X)) (i j n m : ℕ) (a b : Option (K × X)) : Type 0 where
    pub merged : left xs ys i j ≡ keep_lowest f a b (left xs ys (i + n) (j + m))
    pub first : i + n ≤ length xs
    pub second : j + m ≤ length ys
    pub further : (i < length xs) ⊎ (j < length ys) → 1 ≤ n + m

  abbrev IsStepBy : List (K × X) → List (K × X) → ℕ → ℕ → Option (K × X) × Option (K × X) → Type 0
  IsStepBy xs ys i j low = IsStep xs ys i j (taken low.0) (taken low.1) low.0 low.1

  lowest_step : (xs ys : List (K × X)) (i j : ℕ) (x y : Option (K × X)) → IsNext xs i x → IsNext ys j y → i ≤ length xs → j ≤ length ys → IsStepBy xs ys i j (lowest_of R x y)
  lowest_step xs ys i j None None p q u v = record {
    merged = λ k. merge_entries R f (stays xs i k) (stays ys j k);
    first = omega arith;
    second = omega arith;
    further = λ e. elim e [ inl more ↦ absurd (omega arith) | inr more ↦ absurd (omega arith) ];
  }
  lowest_step xs ys i j None (Some y) p q u v =
      let here = q.0 in
      record {
        merged =
            (λ k. merge_entries R f (drop_all i xs p k) (q.1 k))
            ∙ ap (λ es. keep y.0 (f y.0 None (Some y.1)) (merge_entries R f es (drop (j + 1) ys))) (sym (drop_all i xs p) ∙ stays xs i);
        first = omega arith;
        second = omega arith;
        further = λ e. omega arith;
      }
  lowest_step xs ys i j (Some x) None p q u v =
      let here = p.0 in
      record {
        merged =
            (λ k. merge_entries R f (p.1 k) (drop_all j ys q k))
            ∙ ap (λ es. keep x.0 (f x.0 (Some x.1) None) (merge_entries R f (drop (i + 1) xs) es)) (sym (drop_all j ys q) ∙ stays ys j);
        first = omega arith;
        second = omega arith;
        further = λ e. omega arith;
      }
  lowest_step xs ys i j (Some x) (Some y) p q u v =
      let here = p.0 in
      let there = q.0 in
      elim (R x.0 y.0) as (λ r. R x.0 y.0 ≡ r → IsStepBy xs ys i j (by_order r (Some x, None) (Some x, Some y) (None, Some y))) [
        | Less ↦ λ e. record {
          merged =
              whole ∙ ap (λ r. ordered r) e
              ∙ ap (λ es. keep x.0 (f x.0 (Some x.1) None) (merge_entries R f (drop (i + 1) xs) es)) (sym q.1 ∙ stays ys j);
          first = omega arith;
          second = omega arith;
          further = λ e. omega arith;
        }
        | Equal ↦ λ e. record {
          merged = whole ∙ ap (λ r. ordered r) e;
          first = omega arith;
          second = omega arith;
          further = λ e. omega arith;
        }
        | Greater ↦ λ e. record {
          merged =
              whole ∙ ap (λ r. ordered r) e
              ∙ ap (λ es. keep y.0 (f y.0 None (Some y.1)) (merge_entries R f es (drop (j + 1) ys))) (sym p.1 ∙ stays xs i);
          first = omega arith;
          second = omega arith;
          further = λ e. omega arith;
        }
      ] refl
    where
      ordered : Ordering → List (K × X)
      ordered r = by_order r
          (keep x.0 (f x.0 (Some x.1) None) (merge_entries R f (drop (i + 1) xs) (y ∷ drop (j + 1) ys)))
          (keep x.0 (f x.0 (Some x.1) (Some y.1)) (merge_entries R f (drop (i + 1) xs) (drop (j + 1) ys)))
          (keep y.0 (f y.0 None (Some y.1)) (merge_entries R f (x ∷ drop (i + 1) xs) (drop (j + 1) ys)))

      whole : left xs ys i j ≡ ordered (R x.0 y.0)
      whole k = merge_entries R f (p.1 k) (q.1 k)

  -- a step, for borrowed entries
  pub step : (xs ys : List (K × X)) (i j : ℕ) (x y : Option (Bor (K × X))) → IsItemAt xs i x → IsItemAt ys j y → i ≤ length xs → j ≤ length ys
      → (a b : Option (Bor (K × X))) → (option_copied a, option_copied b) ≡ lowest_of R (option_copied x) (option_copied y)
      → (n m : ℕ) → n ≡ from_bool (is_some a) → m ≡ from_bool (is_some b) → IsStep xs ys i j n m (option_copied a) (option_copied b)
  step xs ys i j x y p q u v a b e n m s t =
      let low = lowest_step xs ys i j (option_copied x) (option_copied y) (next_from xs i x p) (next_from ys j y q) u v in
      let here = subst (IsStepBy xs ys i j) (sym e) low in
      let one = subst (λ k. IsStep xs ys i j k (taken (option_copied b)) (option_copied a) (option_copied b)) (sym (s ∙ taken_copied a)) here in
      subst (λ k. IsStep xs ys i j n k (option_copied a) (option_copied b)) (sym (t ∙ taken_copied b)) one

  keep_lowest_before : (a b : Option (K × X)) (es : List (K × X)) → keep_lowest f a b [] ++ es ≡ keep_lowest f a b es
  keep_lowest_before a b es = grind (arith, keep_before)

  -- after a step, the merged entries followed by the merge of the rest are unchanged
  pub merged_more : (xs ys : List (K × X)) (i j n m : ℕ) (a b : Option (K × X)) → IsStep xs ys i j n m a b
      → (old new whole : List (K × X)) → old ++ left xs ys i j ≡ whole → new ≡ old ++ keep_lowest f a b [] → new ++ left xs ys (i + n) (j + m) ≡ whole
  merged_more xs ys i j n m a b step old new whole so_far pushed =
      let rest = left xs ys (i + n) (j + m) in
      ap (λ l. l ++ rest) pushed ∙ append_assoc old (keep_lowest f a b []) rest
      ∙ ap (λ l. old ++ l) (keep_lowest_before a b rest ∙ sym step.merged) ∙ so_far

  -- if no entry remains, the merged entries are the whole merge
  pub merged_whole : (xs ys : List (K × X)) (i j : ℕ) → length xs ≤ i → length ys ≤ j → (all whole : List (K × X)) → all ++ left xs ys i j ≡ whole → all ≡ whole
  merged_whole xs ys i j p q all whole so_far = sym (append-nil all) ∙ ap (λ l. all ++ l) (sym (λ k. merge_entries R f (drop_all i xs p k) (drop_all j ys q k))) ∙ so_far
