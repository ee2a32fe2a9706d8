-- The value of decimal digits.
use Rattle.std.specs.Prelude.{ℕ, ◌+◌, ◌-◌, ◌*◌, List, fold}

-- the number spelled by the digits of n followed by these digits
abbrev pub value_from : ℕ → List ℕ → ℕ
value_from n digits = fold (λ m digit. 10 * m + (digit - 48)) n digits
