-- A list is split at one of its elements as its two sides are, and no part contains an element at which it's split.
use Rattle.std.proofs.Common.{◌≡◌, ◌<◌, Bool, true, false, cond, List, [], ◌∷◌, ◌++◌, length, All, refl, sym, ap, subst, ◌∙◌, arith, inl, inr}
use Rattle.dac_script.specs.laws.Common.{slice_split, All-cons, All-head, All-nil, All-tail, slice_split-cons_yes}
use Rattle.std.specs.List.{onto_first}
use Rattle.std.proofs.lemmas.Bool.{cases_Bool}
use Rattle.std.proofs.lemmas.List.Splits.{length-slice_split, slice_split-cons_no}

-- one more element changes the first part alone
step : {X : Type 0} (here : Bool) (x : X) (parts more : List (List X)) → 0 < length parts
    → cond here ([] ∷ (parts ++ more)) (onto_first x (parts ++ more)) ≡ cond here ([] ∷ parts) (onto_first x parts) ++ more
step here x [] more some = absurd (omega (arith, some))
step true x (part ∷ parts) more some = refl
step false x (part ∷ parts) more some = refl

pub split_append : {X : Type 0} (p : X → Bool) (front : List X) (x : X) (back : List X) → p x ≡ true → slice_split p (front ++ x ∷ back) ≡ slice_split p front ++ slice_split p back
split_append p [] x back here = slice_split-cons_yes p x back here
split_append p (y ∷ front) x back here =
    ap (λ parts. cond (p y) ([] ∷ parts) (onto_first y parts)) (split_append p front x back here)
    ∙ step (p y) y (slice_split p front) (slice_split p back) (omega (arith, length-slice_split p front))

-- no element passes the test
abbrev pub IsUncut : {X : Type 0} → (X → Bool) → List X → Type 0
IsUncut p part = All (λ x. p x ≡ false) part

uncut_more : {X : Type 0} (p : X → Bool) (x : X) (parts : List (List X)) → p x ≡ false → All (IsUncut p) parts → All (IsUncut p) (onto_first x parts)
uncut_more p x [] other all = All-cons (IsUncut p) (x ∷ []) [] (All-cons (λ x. p x ≡ false) x [] other (All-nil (λ x. p x ≡ false))) (All-nil (IsUncut p))
uncut_more p x (part ∷ parts) other all =
    All-cons (IsUncut p) (x ∷ part) parts (All-cons (λ x. p x ≡ false) x part other (All-head (IsUncut p) part parts all)) (All-tail (IsUncut p) part parts all)

pub parts_uncut : {X : Type 0} (p : X → Bool) (xs : List X) → All (IsUncut p) (slice_split p xs)
parts_uncut p [] = All-cons (IsUncut p) [] [] (All-nil (λ x. p x ≡ false)) (All-nil (IsUncut p))
parts_uncut p (x ∷ xs) =
    elim (cases_Bool (p x)) [
      | inl here ↦ subst (All (IsUncut p)) (sym (slice_split-cons_yes p x xs here)) (All-cons (IsUncut p) [] (slice_split p xs) (All-nil (λ x. p x ≡ false)) (parts_uncut p xs))
      | inr other ↦ subst (All (IsUncut p)) (sym (slice_split-cons_no p x xs other)) (uncut_more p x (slice_split p xs) other (parts_uncut p xs))
    ]
