-- Laws of the definitions in `Chains`.
use Rattle.std.specs.Prelude.{◌≡◌, ℕ, true, false, cond, refl}
use Rattle.std.proofs.Common.{zero, suc, arith, sym, ap, subst}
use Rattle.std.specs.declared.cmp.Ordering.{Ordering}
use Rattle.std.specs.declared.cmp.Ordering.TheVariants.{Less, Equal}
use Rattle.std.specs.Ordering.{is_le, is_lt, is_gt, nat_cmp, ordering_reverse, ord_max}
use Rattle.std.specs.Cmp.{IsTotalOrder, nat_cmp_is}
use Rattle.std.proofs.lemmas.Cmp.{upto, tied_itself}
use Rattle.std.proofs.lemmas.Map.Lookups.{CmpEqualImpliesEq}
use Rattle.dac_lattice.specs.Lattices.{IsLattice}
use Rattle.dac_lattice.specs.Chains.{IsAny, IsAtMost}

not_greater : (o : Ordering) → is_le o ≡ true → is_gt o ≡ false
not_greater o e = grind arith

at_most : (o : Ordering) → is_gt o ≡ false → is_le o ≡ true
at_most o e = grind arith

lower : (o : Ordering) → is_lt o ≡ true → is_le o ≡ true
lower o e = grind arith

turned : (o : Ordering) → is_lt o ≡ false → is_le (ordering_reverse o) ≡ true
turned o e = grind arith

tie : (o : Ordering) → is_le o ≡ true → is_le (ordering_reverse o) ≡ true → o ≡ Equal
tie o e f = grind arith

module _ {T : Type 0} {cmp : T → T → Ordering} (o : IsTotalOrder cmp) (exact : CmpEqualImpliesEq cmp) where
  at_most_itself : (x : T) → IsAtMost cmp x x
  at_most_itself x = ap is_le (tied_itself o x)

  pub chain_laws : IsLattice IsAny (IsAtMost cmp) (ord_max cmp)
  chain_laws = record {
    refl = λ x _. at_most_itself x;
    trans = λ x y z _ _ _ p q. at_most (cmp x z) (upto o x y z (not_greater (cmp x y) p) (not_greater (cmp y z) q));
    antisymm = λ x y _ _ p q. exact x y (tie (cmp x y) p (subst (λ r. is_le r ≡ true) (o.antisymm y x) q));
    closed = λ x y _ _. tt;
    left = λ x y _ _. elim (is_lt (cmp y x)) as (λ b. is_lt (cmp y x) ≡ b → IsAtMost cmp x (cond b x y)) [
      | true ↦ λ _. at_most_itself x
      | false ↦ λ e. subst (λ r. is_le r ≡ true) (sym (o.antisymm x y)) (turned (cmp y x) e)
    ] refl;
    right = λ x y _ _. elim (is_lt (cmp y x)) as (λ b. is_lt (cmp y x) ≡ b → IsAtMost cmp y (cond b x y)) [
      | true ↦ λ e. lower (cmp y x) e
      | false ↦ λ _. at_most_itself y
    ] refl;
    least = λ x y z _ _ _ p q. elim (is_lt (cmp y x)) as (λ b. IsAtMost cmp (cond b x y) z) [ true ↦ p | false ↦ q ];
  }

-- no number is below 0
pub zero_is_least : (n : ℕ) → IsAtMost nat_cmp 0 n
zero_is_least zero = refl
zero_is_least (suc n) = ap is_le (sym (nat_cmp_is 0 (suc n) Less (omega arith)))
