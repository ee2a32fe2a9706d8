-- Which fault of several workers is reported.
use Rattle.std.specs.Prelude.{◌≡◌, ◌⊎◌, Bool, false, List, [], ◌∷◌, Result, Err}

-- one of these outcomes is this fault
abbrev pub HasFault : {W F : Type 0} → List (Result W F) → F → Type 0
HasFault [] fault = ⊥
HasFault (outcome ∷ outcomes) fault = (outcome ≡ Err fault) ⊎ HasFault outcomes fault

-- The fault is one of these outcomes, and it is a cause unless none of them is.
pub record IsTold {W F : Type 0} (is_cause : F → Bool) (outcomes : List (Result W F)) (fault : F) : Type 0 where
  pub one : HasFault outcomes fault
  pub cause : is_cause fault ≡ false → (other : F) → HasFault outcomes other → is_cause other ≡ false
