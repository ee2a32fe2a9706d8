-- Members and prefixes of lists.
use Rattle.std.proofs.Common.{◌≡◌, ℕ, zero, suc, ◌+◌, ◌-◌, Bool, true, false, cond, inl, inr, ◌⊎◌, List, [], ◌∷◌, ◌++◌, Some, None, nat_eq, refl, sym, ap, ◌∙◌, arith}
use Rattle.dac_weave.specs.laws.Common.{slice_get, exact_unsigned_eq, counted}

abbrev pub IsMember : {X : Type 0} → X → List X → Type 0
IsMember x [] = ⊥
IsMember x (y ∷ ys) = (x ≡ y) ⊎ IsMember x ys

pub In-left : {X : Type 0} (x : X) (xs ys : List X) → IsMember x xs → IsMember x (xs ++ ys)
In-left x [] ys h = elim h [ ]
In-left x (z ∷ xs) ys (inl e) = inl e
In-left x (z ∷ xs) ys (inr h) = inr (In-left x xs ys h)

pub In-right : {X : Type 0} (x : X) (xs ys : List X) → IsMember x ys → IsMember x (xs ++ ys)
In-right x [] ys h = h
In-right x (z ∷ xs) ys h = inr (In-right x xs ys h)

pub In-cases : {X : Type 0} (x : X) (xs ys : List X) → IsMember x (xs ++ ys) → IsMember x xs ⊎ IsMember x ys
In-cases x [] ys h = inr h
In-cases x (z ∷ xs) ys (inl e) = inl (inl e)
In-cases x (z ∷ xs) ys (inr h) = elim (In-cases x xs ys h) [ inl a ↦ inl (inr a) | inr b ↦ inr b ]

-- ---- places counted from 1
in-from_get : {X : Type 0} (x : X) (xs : List X) (i : ℕ) → slice_get xs i ≡ Some x → IsMember x xs
in-from_get x [] i h = cc
in-from_get x (y ∷ ys) zero h = inl (cc)
in-from_get x (y ∷ ys) (suc i) h = inr (in-from_get x ys i h)

pub in-from_counted : {X : Type 0} (x : X) (xs : List X) (k : ℕ) → counted xs k ≡ Some x → IsMember x xs
in-from_counted {X} x xs k = elim (nat_eq k 0) as (λ b. cond b None (slice_get xs (k - 1)) ≡ Some x → IsMember x xs) [
  | true ↦ λ h. cc
  | false ↦ λ h. in-from_get x xs (k - 1) h
]

get-from_in : {X : Type 0} (x : X) (xs : List X) → IsMember x xs → (i : ℕ) × (slice_get xs i ≡ Some x)
get-from_in x [] h = elim h [ ]
get-from_in x (y ∷ ys) (inl e) = (0, ap (λ z. Some z) (sym e))
get-from_in x (y ∷ ys) (inr h) = let at = get-from_in x ys h in (suc at.0, at.1)

pub not_true : (b : Bool) → (b ≡ true → ⊥) → b ≡ false
not_true true h = absurd (h refl)
not_true false h = refl

above_zero : (i : ℕ) → i + 1 ≡ 0 → ⊥
above_zero i e = omega arith

pub counted-get : {X : Type 0} (x : X) (xs : List X) (i : ℕ) → slice_get xs i ≡ Some x → counted xs (i + 1) ≡ Some x
counted-get {X} x xs i h =
    ap (λ b. cond b None (slice_get xs ((i + 1) - 1))) (not_true (nat_eq (i + 1) 0) (λ e. above_zero i (exact_unsigned_eq (i + 1) 0 e)))
    ∙ (ap (slice_get xs) back ∙ h)
  where
    back : (i + 1) - 1 ≡ i
    back = omega arith

pub counted-from_in : {X : Type 0} (x : X) (xs : List X) → IsMember x xs → (k : ℕ) × (counted xs k ≡ Some x)
counted-from_in x xs h = let at = get-from_in x xs h in (at.0 + 1, counted-get x xs at.0 at.1)
