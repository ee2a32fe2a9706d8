-- Sets of dots as a dot store.
use Rattle.std.specs.Prelude.{◌≡◌, Bool, true, not, ◌||◌, nat_eq}
use Rattle.std.specs.FinSet as set
use Rattle.dac_origins.specs.Dots.{Dots}
use Rattle.dac_origins.specs.declared.dot.Dot.{Dot}

-- each dot in t and in the context c is in s
abbrev pub IsSetBelow : Dots → Dots → Dots → Dots → Type 0
IsSetBelow s c t d = (x : Dot) → set.contains t x ≡ true → set.contains c x ≡ true → set.contains s x ≡ true

-- a dot stays in a join with the set t and its context d: it is in t, or not in d
abbrev pub may_stay : Dots → Dots → Dot → Bool
may_stay t d x = set.contains t x || not (set.contains d x)

-- the dots of each set that stay in a join with the other
unfoldable pub join_sets : Dots → Dots → Dots → Dots → Dots
join_sets s c t d = set.union (set.retain s (may_stay t d)) (set.retain t (may_stay s c))

-- whether the set is empty
abbrev pub is_empty_set : Dots → Bool
is_empty_set s = nat_eq (set.len s) 0
