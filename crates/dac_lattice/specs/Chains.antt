-- Total orders in which only equal values tie, as lattices.
use Rattle.std.specs.Prelude.{IsTrue}
use Rattle.std.specs.declared.cmp.Ordering.{Ordering}
use Rattle.std.specs.Ordering.{is_le}

-- x is less than or equal to y
abbrev pub IsAtMost : {T : Type 0} → (T → T → Ordering) → T → T → Type 0
IsAtMost cmp x y = IsTrue (is_le (cmp x y))

-- holds of every value
abbrev pub IsAny : {T : Type 0} → T → Type 0
IsAny x = Unit {0}
