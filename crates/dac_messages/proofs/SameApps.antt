-- The derived `==` of applications compares their numbers.
use Rattle.std.proofs.Common.{◌≡◌, Bool, true, ◌==◌, refl, subst}
use Rattle.std.proofs.lemmas.Bool.{eqb-true, eq-eqb}
use Rattle.dac_base.specs.declared.AppId.{AppId}

-- the numbers are equal
abbrev pub are_same : AppId → AppId → Bool
are_same x y = x.0 == y.0

same : (x y : AppId) → are_same x y ≡ true → x ≡ y
same x y e = λ i. record { 0 = eqb-true x.0 y.0 e i }

pub same_apps : (x y : AppId) → (are_same x y ≡ true → x ≡ y) × (x ≡ y → are_same x y ≡ true)
same_apps x y = (same x y, λ s. subst (λ a. are_same x a ≡ true) s (eq-eqb x.0 x.0 refl))
