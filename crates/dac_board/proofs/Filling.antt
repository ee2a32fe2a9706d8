-- Lists filled place by place.
use Rattle.std.proofs.Common.{◌≡◌, ℕ, zero, suc, add-one, subst, ext_get_or, ◌+◌, ◌<◌, ◌≤◌, Bool, true, false, cond, List, [], ◌∷◌, ◌++◌, length, get_or, set, refl, sym, ap, ◌∙◌, arith, get_or-set_same, get_or-set_other}
use Rattle.std.specs.Prelude.{map as list_map, filter, nat_lt}
use Rattle.std.proofs.lemmas.Bool.{ltb-true, ltb-false}
use Rattle.std.specs.List.{range_with_len, sum_by}
use Rattle.std.proofs.lemmas.List.{length-append, length-map, get_or-map, map_push}
use Rattle.std.proofs.lemmas.List.FromFn.{get_or-map-range_with_len, map-range_with_len_more, filter_of_map_range_with_len_more, length-map-range_with_len, sum_by-map-range_with_len_more}

module _ {I X : Type 0} (numbered : ℕ → I) (f : I → X) where
  -- the values of the first n
  abbrev pub filled : ℕ → List X
  filled n = list_map f (list_map numbered (range_with_len 0 n))

  pub filled_more : (n : ℕ) → filled (n + 1) ≡ filled n ++ f (numbered n) ∷ []
  filled_more n = ap (list_map f) (map-range_with_len_more numbered 0 n n (omega arith)) ∙ map_push f (list_map numbered (range_with_len 0 n)) (numbered n)

  pub length_filled : (n : ℕ) → length (filled n) ≡ n
  length_filled n = length-map (list_map numbered (range_with_len 0 n)) f ∙ length-map-range_with_len numbered 0 n

  pub filled_at : (n k : ℕ) (d : X) → k < n → get_or (filled n) k d ≡ f (numbered k)
  filled_at n k d lt =
      get_or-map f (list_map numbered (range_with_len 0 n)) k (numbered k) d (omega (arith, length-map-range_with_len numbered 0 n))
      ∙ ap f (get_or-map-range_with_len numbered 0 n k k (numbered k) lt (omega arith))

  -- a list that has each value in its place
  pub filled_by : (xs : List X) (n : ℕ) (d : X) → length xs ≡ n → ((k : ℕ) → k < n → get_or xs k d ≡ f (numbered k)) → xs ≡ filled n
  filled_by xs n d long h = ext_get_or d xs (filled n) (long ∙ sym (length_filled n)) (λ k lt. h k (omega arith) ∙ sym (filled_at n k d (omega arith)))

-- how many of the first n pass
module _ {I : Type 0} (numbered : ℕ → I) (p : I → Bool) where
  abbrev pub passed : ℕ → ℕ
  passed n = length (filter p (list_map numbered (range_with_len 0 n)))

  pub passed_more : (n : ℕ) → passed (n + 1) ≡ passed n + cond (p (numbered n)) 1 0
  passed_more n = ap length (filter_of_map_range_with_len_more p numbered 0 n n (omega arith)) ∙ length-append (filter p (list_map numbered (range_with_len 0 n))) _ ∙ ap (λ m. passed n + m) (one (p (numbered n)))
    where
      one : (b : Bool) → length (cond b (numbered n ∷ []) []) ≡ cond b 1 0
      one true = refl
      one false = refl

  pub passes : (n : ℕ) → p (numbered n) ≡ true → passed (n + 1) ≡ passed n + 1
  passes n e = passed_more n ∙ ap (λ b. passed n + cond b 1 0) e

  pub fails : (n : ℕ) → p (numbered n) ≡ false → passed (n + 1) ≡ passed n
  fails n e = passed_more n ∙ ap (λ b. passed n + cond b 1 0) e ∙ omega arith

  pub more_passed : (m n : ℕ) → m ≤ n → passed m ≤ passed n
  more_passed m zero le = let same : m ≡ zero = omega arith in subst (λ k. passed k ≤ passed zero) (sym same) (omega arith)
  more_passed m (suc n) le = elim (nat_lt n m) as (λ b. nat_lt n m ≡ b → passed m ≤ passed (suc n)) [
    | true ↦ λ e. let above : n < m = ltb-true n m e in let same : m ≡ suc n = omega (arith, above, le) in subst (λ k. passed k ≤ passed (suc n)) (sym same) (omega arith)
    | false ↦ λ e. let below : m ≤ n = ltb-false n m e in omega (arith, ap passed (add-one n), passed_more n, more_passed m n below)
  ] refl

module _ {I X : Type 0} (numbered : ℕ → I) (f : I → X) where
  -- a loop that sets place n extends the filled part by one
  pub one_more : (xs : List X) (n : ℕ) (x d : X) → n < length xs → x ≡ f (numbered n) → ((k : ℕ) → k < n → get_or xs k d ≡ f (numbered k)) → (k : ℕ) → k < n + 1 → get_or (set xs n x) k d ≡ f (numbered k)
  one_more xs n x d inside is done k lt = elim (nat_lt k n) as (λ b. nat_lt k n ≡ b → get_or (set xs n x) k d ≡ f (numbered k)) [
    | true ↦ λ e. get_or-set_other xs n k x d (λ same. let below : k < n = ltb-true k n e in omega (arith, same, below)) ∙ done k (ltb-true k n e)
    | false ↦ λ e. let here : n ≡ k = omega (arith, ltb-false k n e) in subst (λ m. get_or (set xs n x) m d ≡ f (numbered m)) here (get_or-set_same xs n x d inside ∙ is)
  ] refl

  -- a loop that leaves place n alone extends the filled part by one if the place has its value already
  pub one_kept : (xs : List X) (n : ℕ) (d : X) → get_or xs n d ≡ f (numbered n) → ((k : ℕ) → k < n → get_or xs k d ≡ f (numbered k)) → (k : ℕ) → k < n + 1 → get_or xs k d ≡ f (numbered k)
  one_kept xs n d is done k lt = elim (nat_lt k n) as (λ b. nat_lt k n ≡ b → get_or xs k d ≡ f (numbered k)) [
    | true ↦ λ e. done k (ltb-true k n e)
    | false ↦ λ e. let here : n ≡ k = omega (arith, ltb-false k n e) in subst (λ m. get_or xs m d ≡ f (numbered m)) here is
  ] refl

  -- setting place n leaves later places unchanged
  pub rest_kept : (xs : List X) (n k : ℕ) (x d : X) → n + 1 ≤ k → get_or (set xs n x) k d ≡ get_or xs k d
  rest_kept xs n k x d le = get_or-set_other xs n k x d (λ same. omega (arith, same, le))

-- a read within a list doesn't depend on the default
pub get_any : {X : Type 0} (xs : List X) (i : ℕ) (d e : X) → i < length xs → get_or xs i d ≡ get_or xs i e
get_any [] i d e lt = absurd (omega arith)
get_any (x ∷ xs) zero d e lt = refl
get_any (x ∷ xs) (suc i) d e lt = get_any xs i d e (omega arith)

-- a sum over more items is no smaller
pub more_summed : {I : Type 0} (numbered : ℕ → I) (f : I → ℕ) (m n : ℕ) → m ≤ n → sum_by f (list_map numbered (range_with_len 0 m)) ≤ sum_by f (list_map numbered (range_with_len 0 n))
more_summed numbered f m zero le = let same : m ≡ zero = omega arith in subst (λ k. sum_by f (list_map numbered (range_with_len 0 k)) ≤ sum_by f (list_map numbered (range_with_len 0 zero))) (sym same) (omega arith)
more_summed numbered f m (suc n) le = elim (nat_lt n m) as (λ b. nat_lt n m ≡ b → sum_by f (list_map numbered (range_with_len 0 m)) ≤ sum_by f (list_map numbered (range_with_len 0 (suc n)))) [
  | true ↦ λ e. let above : n < m = ltb-true n m e in let same : m ≡ suc n = omega (arith, above, le) in subst (λ k. sum_by f (list_map numbered (range_with_len 0 k)) ≤ sum_by f (list_map numbered (range_with_len 0 (suc n)))) (sym same) (omega arith)
  | false ↦ λ e. let below : m ≤ n = ltb-false n m e in omega (arith, ap (λ k. sum_by f (list_map numbered (range_with_len 0 k))) (add-one n), sum_by-map-range_with_len_more f numbered 0 n n (omega arith), more_summed numbered f m n below)
] refl
