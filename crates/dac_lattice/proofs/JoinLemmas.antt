-- The join of two maps if the first is empty.
use Rattle.std.proofs.Common.{◌≡◌, nat_eq, true, List, [], ◌∷◌, length, refl, arith}
use Rattle.std.proofs.lemmas.Bool.{eqb-true}
use Rattle.std.specs.declared.cmp.Ordering.{Ordering}
use Rattle.dac_lattice.specs.Maps.{join_maps}

module _ {K X : Type 0} (R : K → K → Ordering) (join : X → X → X) where
  after_nothing : (ys : List (K × X)) → join_maps R join [] ys ≡ ys
  after_nothing [] = refl
  after_nothing (y ∷ ys) = λ k. y ∷ after_nothing ys k

  pub nothing_first : (xs ys : List (K × X)) → nat_eq (length xs) 0 ≡ true → join_maps R join xs ys ≡ ys
  nothing_first [] ys none = after_nothing ys
  nothing_first (x ∷ xs) ys none = let e = eqb-true (length (x ∷ xs)) 0 none in absurd (omega arith)
