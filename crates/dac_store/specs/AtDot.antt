-- The values of two sides at one dot, with whether each side's context contains the dot.
use Rattle.std.specs.Prelude.{◌≡◌, Bool, true, Option, None, Some, is_some, if◌then◌else◌}
use Rattle.dac_lattice.specs.Lattices.{IsOptionOf}

-- the order at a dot: a value on the second side requires one on the first that isn't greater
abbrev pub StandsBelow : {V : Type 0} → (V → V → Type 0) → Option V → Option V → Type 0
StandsBelow below x None = Unit {0}
StandsBelow below None (Some y) = ⊥
StandsBelow below (Some x) (Some y) = below x y

-- the join at a dot: the join of two values; a value of one side alone stays unless the other's context contains the
-- dot. c and d: whether the context of each side contains the dot
abbrev pub join_at : {V : Type 0} → (V → V → V) → Bool → Bool → Option V → Option V → Option V
join_at join c d None None = None
join_at join c d (Some v) None = if d then None else Some v
join_at join c d None (Some w) = if c then None else Some w
join_at join c d (Some v) (Some w) = Some (join v w)

-- if there is a value, it has its type's invariant, and the context contains the dot
abbrev pub Under : {V : Type 0} → (V → Type 0) → Bool → Option V → Type 0
Under is_value c v = IsOptionOf is_value v × (is_some v ≡ true → c ≡ true)
