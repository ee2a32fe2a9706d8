-- A change of the value at a key of a map, and of a target with it.
use Rattle.std.specs.Prelude.{◌≡◌, Bool, true, false, List, Some}
use Rattle.std.specs.declared.cmp.Ordering.{Ordering}
use Rattle.std.specs.FinMap.{find, put}

-- what a change does: the value and the target before, and both after
abbrev pub Altering : Type 0 → Type 0 → Type 1
Altering X T = X → T → X → T → Type 0

-- the value at the key and the target are changed
pub record IsAlteredAt {K X T : Type 0} (R : K → K → Ordering) (does : Altering X T) (key : K) (old : List (K × X)) (before : T)
    (new : List (K × X)) (after : T) : Type 0 where
  pub value : X
  pub made : X
  pub found : find R key old ≡ Some value
  pub done : does value before made after
  pub entries : new ≡ put R key made old

-- the change is done, or nothing has changed
abbrev pub IsAlteredIf : {K X T : Type 0} → (K → K → Ordering) → Altering X T → K → List (K × X) → T → List (K × X) → T → Bool → Type 0
IsAlteredIf R does key old before new after true = IsAlteredAt R does key old before new after
IsAlteredIf R does key old before new after false = (new ≡ old) × (after ≡ before)
