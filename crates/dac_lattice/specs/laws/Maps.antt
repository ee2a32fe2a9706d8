-- Laws of the definitions in `Maps`.
use Rattle.std.specs.Prelude.{◌≡◌, List, refl}
use Rattle.std.proofs.Common.{sym, subst}
use Rattle.std.specs.declared.cmp.Ordering.{Ordering}
use Rattle.std.specs.Cmp.{IsTotalOrder}
use Rattle.std.proofs.lemmas.Map.Lookups.{CmpEqualImpliesEq}
use Rattle.std.specs.FinMap.{find}
use Rattle.std.specs.FinMap.Entries.{same_entries}
use Rattle.dac_lattice.specs.Lattices.{IsLattice, IsOptionOf, IsOptionBelow, join_options}
use Rattle.dac_lattice.specs.laws.Lattices.{optional_laws}
use Rattle.dac_lattice.specs.laws.Entries.{sorted_merge, find_merge}
use Rattle.dac_lattice.specs.Maps.{IsMap, IsMapBelow, join_maps}

module _ {K X : Type 0} {R : K → K → Ordering} (o : IsTotalOrder R) (exact : CmpEqualImpliesEq R) {is_value : X → Type 0} {below : X → X → Type 0} {join : X → X → X} (laws : IsLattice is_value below join) where
  -- the value of a join at a key
  pub find_join : (k : K) (xs ys : List (K × X)) → IsMap R is_value xs → IsMap R is_value ys → find R k (join_maps R join xs ys) ≡ join_options join (find R k xs) (find R k ys)
  find_join k xs ys u v = find_merge o exact (λ _. join_options join) (λ _. refl) k xs ys u.in_order v.in_order

  pub map_laws : IsLattice (IsMap R is_value) (IsMapBelow R below) (join_maps R join)
  map_laws =
      let values = optional_laws laws in
      record {
        refl = λ x u k. values.refl _ (u.values k);
        trans = λ x y z u v w p q k. values.trans _ _ _ (u.values k) (v.values k) (w.values k) (p k) (q k);
        antisymm = λ x y u v p q. same_entries R o exact x y u.in_order v.in_order (λ k. values.antisymm _ _ (u.values k) (v.values k) (p k) (q k));
        closed = λ x y u v. record {
          in_order = sorted_merge o exact (λ _. join_options join) x y u.in_order v.in_order;
          values = λ k. subst (IsOptionOf is_value) (sym (find_join k x y u v)) (values.closed _ _ (u.values k) (v.values k));
        };
        left = λ x y u v k. subst (IsOptionBelow below (find R k x)) (sym (find_join k x y u v)) (values.left _ _ (u.values k) (v.values k));
        right = λ x y u v k. subst (IsOptionBelow below (find R k y)) (sym (find_join k x y u v)) (values.right _ _ (u.values k) (v.values k));
        least = λ x y z u v w p q k. subst (λ j. IsOptionBelow below j (find R k z)) (sym (find_join k x y u v)) (values.least _ _ _ (u.values k) (v.values k) (w.values k) (p k) (q k));
      }
