-- Bloom filters of dots with one hash: each dot has one of 1,024 slots, which are the bits of 16 words.
use Rattle.std.specs.Prelude.{◌≡◌, ℕ, ◌+◌, ◌*◌, ◌/◌, ◌%◌, Bool, true, false, List, get_or, nat_eq}
use Rattle.std.specs.Int.{bit_at}
use Rattle.std.specs.FinSet as set
use Rattle.dac_origins.specs.Dots.{Dots}
use Rattle.dac_origins.specs.declared.dot.Dot.{Dot}

-- the slot of the dot
abbrev pub slot_of : Dot → ℕ
slot_of d = d.n % 128 * 8 + d.origin.node.0 % 8

-- whether the dot's slot is set
abbrev pub may_have : List ℕ → Dot → Bool
may_have slots d = nat_eq (bit_at (get_or slots (slot_of d / 64) 0) (slot_of d % 64)) 1

-- the slot of each dot in the set is set
abbrev pub MayHaveAll : List ℕ → Dots → Type 0
MayHaveAll slots dots = (q : Dot) → set.contains dots q ≡ true → may_have slots q ≡ true

-- no slot is set in both
abbrev pub AreApart : List ℕ → List ℕ → Type 0
AreApart slots others = (q : Dot) → may_have slots q ≡ true → may_have others q ≡ false
