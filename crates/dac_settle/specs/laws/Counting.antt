-- The number of applications that pass a test.
use Rattle.std.proofs.Common.{◌≡◌, ◌⊎◌, ℕ, ◌+◌, ◌<◌, ◌≤◌, Bool, true, false, cond, List, [], ◌∷◌, suc, length, refl, sym, ap, subst, ◌∙◌, arith, inl, inr}
use Rattle.dac_settle.specs.laws.Common.{AppId, IsApp}

abbrev pub count : (AppId → Bool) → List AppId → ℕ
count p [] = 0
count p (x ∷ xs) = cond (p x) (count p xs + 1) (count p xs)

-- no more pass than there are
pub count_few : (p : AppId → Bool) (xs : List AppId) → count p xs ≤ length xs
count_few p [] = omega arith
count_few p (y ∷ ys) = let rest = count_few p ys in elim (p y) as (λ b. cond b (count p ys + 1) (count p ys) ≤ suc (length ys)) [ true ↦ omega arith | false ↦ omega arith ]

-- if the count is zero, none passes
pub count_none : (p : AppId → Bool) (xs : List AppId) → count p xs ≡ 0 → (x : AppId) → IsApp x xs → p x ≡ false
count_none p [] e x h = absurd h
count_none p (y ∷ ys) e x h =
    elim (p y) as (λ b. p y ≡ b → cond b (count p ys + 1) (count p ys) ≡ 0 → p x ≡ false) [
      | true ↦ λ is e. absurd (omega arith)
      | false ↦ λ is e. elim h [ inl same ↦ ap p same ∙ is | inr rest ↦ count_none p ys e x rest ]
    ] refl e

pub none_count : (p : AppId → Bool) (xs : List AppId) → ((x : AppId) → IsApp x xs → p x ≡ false) → count p xs ≡ 0
none_count p [] h = refl
none_count p (y ∷ ys) h =
    ap (λ b. cond b (count p ys + 1) (count p ys)) (h y (inl refl)) ∙ none_count p ys (λ x i. h x (inr i))

-- some passes, or none does
pub some_or_none : (p : AppId → Bool) (xs : List AppId) → ((x : AppId) × IsApp x xs × (p x ≡ true)) ⊎ ((x : AppId) → IsApp x xs → p x ≡ false)
some_or_none p [] = inr (λ x h. absurd h)
some_or_none p (y ∷ ys) =
    elim (p y) as (λ b. p y ≡ b → ((x : AppId) × IsApp x (y ∷ ys) × (p x ≡ true)) ⊎ ((x : AppId) → IsApp x (y ∷ ys) → p x ≡ false)) [
      | true ↦ λ is. inl (y, inl refl, is)
      | false ↦ λ is. elim (some_or_none p ys) [
        | inl found ↦ inl (found.0, inr found.1, found.2)
        | inr none ↦ inr (λ x h. elim h [ inl same ↦ ap p same ∙ is | inr rest ↦ none x rest ])
      ]
    ] refl

module _ (p q : AppId → Bool) (narrower : (x : AppId) → p x ≡ false → q x ≡ false) where
  -- a narrower test counts no more
  pub count_le : (xs : List AppId) → count q xs ≤ count p xs
  count_le [] = omega arith
  count_le (y ∷ ys) =
      let rest = count_le ys in
      elim (p y) as (λ b. p y ≡ b → cond (q y) (count q ys + 1) (count q ys) ≤ cond b (count p ys + 1) (count p ys)) [
        | true ↦ λ is. elim (q y) as (λ c. cond c (count q ys + 1) (count q ys) ≤ count p ys + 1) [ true ↦ omega arith | false ↦ omega arith ]
        | false ↦ λ is. subst (λ c. cond c (count q ys + 1) (count q ys) ≤ count p ys) (sym (narrower y is)) rest
      ] refl

  -- it counts fewer if some pass only the wider test
  pub count_lt : (xs : List AppId) (x : AppId) → IsApp x xs → p x ≡ true → q x ≡ false → count q xs < count p xs
  count_lt [] x h passes fails = absurd h
  count_lt (y ∷ ys) x h passes fails =
      elim h [
        | inl same ↦
            let rest = count_le ys in
            subst (λ c. cond c (count q ys + 1) (count q ys) < cond (p y) (count p ys + 1) (count p ys)) (sym (ap q (sym same) ∙ fails))
            (subst (λ c. count q ys < cond c (count p ys + 1) (count p ys)) (sym (ap p (sym same) ∙ passes)) (omega arith))
        | inr later ↦
            let rest = count_lt ys x later passes fails in
            elim (p y) as (λ b. p y ≡ b → cond (q y) (count q ys + 1) (count q ys) < cond b (count p ys + 1) (count p ys)) [
              | true ↦ λ is. elim (q y) as (λ c. cond c (count q ys + 1) (count q ys) < count p ys + 1) [ true ↦ omega arith | false ↦ omega arith ]
              | false ↦ λ is. subst (λ c. cond c (count q ys + 1) (count q ys) < count p ys) (sym (narrower y is)) rest
            ] refl
      ]
