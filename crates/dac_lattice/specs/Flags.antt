-- The flags Up and Down, ordered with Up below Down.
use Rattle.std.specs.Prelude.{◌≡◌, ℕ, Bool, true, false, refl}
use Rattle.std.specs.declared.cmp.Ordering.{Ordering}
use Rattle.std.specs.Ordering.{nat_cmp}
use Rattle.std.specs.Coded.{Coded, code_by, coded_bool}
use Rattle.dac_lattice.specs.declared.flags.Flag.{Flag}
use Rattle.dac_lattice.specs.declared.flags.Flag.TheVariants.{Up, Down}

-- Up is below both, and Down only below itself
abbrev pub IsFlagBelow : Flag → Flag → Type 0
IsFlagBelow Up y = Unit {0}
IsFlagBelow Down Up = ⊥
IsFlagBelow Down Down = Unit {0}

-- Down if either is Down
abbrev pub join_flags : Flag → Flag → Flag
join_flags Up y = y
join_flags Down y = Down

-- the rank of a flag
abbrev pub height : Flag → ℕ
height Up = 0
height Down = 1

-- the total order of flags: Up before Down
abbrev pub flag_cmp : Flag → Flag → Ordering
flag_cmp x y = nat_cmp (height x) (height y)

abbrev is_down : Flag → Bool
is_down Up = false
is_down Down = true

abbrev flag_of : Bool → Flag
flag_of false = Up
flag_of true = Down

pub flag_of-is_down : (x : Flag) → flag_of (is_down x) ≡ x
flag_of-is_down Up = refl
flag_of-is_down Down = refl

-- a flag encoded as a boolean
abbrev pub coded_flag : Coded Flag
coded_flag = code_by Bool coded_bool is_down flag_of flag_of-is_down
