-- A list with one item replaced.
use Rattle.std.proofs.Common.{◌≡◌, ℕ, zero, suc, ◌<◌, Bool, true, false, cond, List, [], ◌∷◌, Some, length, nat_eq, refl, sym, ap, ◌∙◌, arith, eq-eqb}
use Rattle.dac_core.proofs.Common.{slice_get}
use Rattle.std.proofs.lemmas.Bool.{false_from_ne_true}
use Rattle.std.proofs.Math.ListN.{set}
use Rattle.std.proofs.lemmas.Map.Views.{exact_unsigned_eq}

-- equivalent tests are equal
same_answer : (a b : Bool) → (a ≡ true → b ≡ true) → (b ≡ true → a ≡ true) → a ≡ b
same_answer true b f g = sym (f refl)
same_answer false true f g = g refl
same_answer false false f g = refl

nonzero : (n : ℕ) → suc n ≡ 0 → ⊥
nonzero n e = omega arith

pred_eq : (n i : ℕ) → suc n ≡ suc i → n ≡ i
pred_eq n i e = omega arith

pub slice_get-set : {X : Type 0} (xs : List X) (i n : ℕ) (x : X) → i < length xs → slice_get (set xs i x) n ≡ cond (nat_eq n i) (Some x) (slice_get xs n)
slice_get-set [] i n x h = absurd (omega arith)
slice_get-set (y ∷ xs) zero zero x h = refl
slice_get-set (y ∷ xs) zero (suc n) x h = ap (λ b. cond b (Some x) (slice_get xs n)) (sym (false_from_ne_true (nat_eq (suc n) 0) (λ t. nonzero n (exact_unsigned_eq (suc n) 0 t))))
slice_get-set (y ∷ xs) (suc i) zero x h = ap (λ b. cond b (Some x) (Some y)) (sym (false_from_ne_true (nat_eq 0 (suc i)) (λ t. nonzero i (sym (exact_unsigned_eq 0 (suc i) t)))))
slice_get-set (y ∷ xs) (suc i) (suc n) x h =
    slice_get-set xs i n x (omega arith)
    ∙ ap (λ b. cond b (Some x) (slice_get xs n)) (same_answer (nat_eq n i) (nat_eq (suc n) (suc i))
    (λ t. eq-eqb (suc n) (suc i) (ap suc (exact_unsigned_eq n i t))) (λ t. eq-eqb n i (pred_eq n i (exact_unsigned_eq (suc n) (suc i) t))))
