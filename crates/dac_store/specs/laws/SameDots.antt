-- Laws of the definitions in `SameDots`.
use Rattle.std.proofs.Common.{◌≡◌, true, ◌==◌, ◌&&◌, refl, subst}
use Rattle.std.proofs.lemmas.Bool.{and_parts, and_from, eqb-true, eq-eqb}
use Rattle.dac_origins.specs.declared.dot.Dot.{Dot}
use Rattle.dac_store.specs.SameDots.{are_same}

joined : (x y : Dot) → x.origin.node.0 ≡ y.origin.node.0 → x.origin.inc ≡ y.origin.inc → x.n ≡ y.n → x ≡ y
joined x y node inc n = λ i. record { origin = record { node = record { 0 = node i }; inc = inc i }; n = n i }

same : (x y : Dot) → are_same x y ≡ true → x ≡ y
same x y e =
    let both = and_parts ((x.origin.node.0 == y.origin.node.0) && (x.origin.inc == y.origin.inc)) (x.n == y.n) e in
    let origins = and_parts (x.origin.node.0 == y.origin.node.0) (x.origin.inc == y.origin.inc) both.0 in
    joined x y (eqb-true x.origin.node.0 y.origin.node.0 origins.0) (eqb-true x.origin.inc y.origin.inc origins.1) (eqb-true x.n y.n both.1)

itself : (x : Dot) → are_same x x ≡ true
itself x =
    and_from ((x.origin.node.0 == x.origin.node.0) && (x.origin.inc == x.origin.inc)) (x.n == x.n) (and_from (x.origin.node.0 == x.origin.node.0) (x.origin.inc == x.origin.inc) (eq-eqb x.origin.node.0 x.origin.node.0 refl) (eq-eqb x.origin.inc x.origin.inc refl)) (eq-eqb x.n x.n refl)

pub same_dots : (x y : Dot) → (are_same x y ≡ true → x ≡ y) × (x ≡ y → are_same x y ≡ true)
same_dots x y = (same x y, λ s. subst (λ d. are_same x d ≡ true) s (itself x))
