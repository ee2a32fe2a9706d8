-- A map with one entry is below another map exactly if its value isn't greater than the other's at the key.
use Rattle.std.proofs.Common.{◌≡◌, true, false, cond, Some, None, ◌↔◌, refl, sym, ap, ◌∙◌, subst}
use Rattle.std.specs.declared.cmp.Ordering.{Ordering}
use Rattle.std.specs.Ordering.{eq_by_cmp, is_eq}
use Rattle.std.specs.Cmp.{IsTotalOrder, Equal-is}
use Rattle.std.specs.FinMap as map
use Rattle.std.proofs.lemmas.Cmp.{tied_itself}
use Rattle.std.proofs.lemmas.Map.Lookups.{CmpEqualImpliesEq}
use Rattle.dac_lattice.specs.Chains.{IsAtMost}
use Rattle.dac_lattice.specs.Lattices.{IsOptionBelow}
use Rattle.dac_chains.specs.Greatest.{AreNotAbove, alone}

module _ {K T : Type 0} {R : K → K → Ordering} (keys : IsTotalOrder R) (exact : CmpEqualImpliesEq R) (cmp : T → T → Ordering) where
  at : (k : K) (v : T) (q : K) → map.get (alone {R = R} (Some (k, v))) q ≡ cond (eq_by_cmp R q k) (Some v) None
  at k v q = map.get-insert keys map.empty k v q ∙ ap (cond (eq_by_cmp R q k) (Some v)) (map.get-empty R q)

  pub one_below : (k : K) (v : T) (s : map.FinMap R T) → IsOptionBelow (IsAtMost cmp) (Some v) (map.get s k) ↔ AreNotAbove cmp (alone (Some (k, v))) s
  one_below k v s = (
    λ h q. subst (λ x. IsOptionBelow (IsAtMost cmp) x (map.get s q)) (sym (at k v q))
        (elim (eq_by_cmp R q k) as (λ b. eq_by_cmp R q k ≡ b → IsOptionBelow (IsAtMost cmp) (cond b (Some v) None) (map.get s q)) [
          | true ↦ λ t. subst (λ p. IsOptionBelow (IsAtMost cmp) (Some v) (map.get s p)) (sym (exact q k ((Equal-is (R q k)).0 t))) h
          | false ↦ λ t. tt
        ] refl),
    λ h. subst (λ x. IsOptionBelow (IsAtMost cmp) x (map.get s k)) (at k v k ∙ ap (λ b. cond b (Some v) None) (ap is_eq (tied_itself keys k))) (h k),
  )

  -- no report is below all
  pub nothing_below : (s : map.FinMap R T) → AreNotAbove cmp (alone {R = R} None) s
  nothing_below s k = subst (λ x. IsOptionBelow (IsAtMost cmp) x (map.get s k)) (sym (map.get-empty R k)) tt
