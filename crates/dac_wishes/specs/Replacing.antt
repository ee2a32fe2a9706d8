-- Operations that replace dots: the dots that they name, and those of their writes that stand. Lists represent sets of
-- operations; order and repetition don't matter.
use Rattle.std.specs.Prelude.{◌≡◌, Bool, false, ◌||◌, List, ◌∷◌}
use Rattle.std.specs.List.{list_any}
use Rattle.std.specs.FinSet as set
use Rattle.dac_origins.specs.declared.dot.Dot.{Dot}
use Rattle.dac_origins.specs.Dots.{Dots, dot_cmp}
use Rattle.dac_origins.specs.Keys.{has_key}
use Rattle.dac_wishes.specs.Writes.{same_dot}

-- the operation has this dot
abbrev pub is_under : {A : Type 0} → Dot → Dot × A → Bool
is_under x o = same_dot x o.0

module _ {A : Type 0} (over : A → List Dot) where
  -- the operation replaces this dot
  abbrev pub replaces : Dot → Dot × A → Bool
  replaces x o = has_key dot_cmp (over o.1) x

  -- an operation of the list replaces this dot
  abbrev pub is_replaced : Dot → List (Dot × A) → Bool
  is_replaced x os = list_any (replaces x) os

  -- the operation has this dot, or replaces it
  abbrev pub names : Dot → Dot × A → Bool
  names x o = is_under x o || replaces x o

  -- the act doesn't replace its own dot
  abbrev pub ExcludesOwnDot : Dot → A → Type 0
  ExcludesOwnDot d a = has_key dot_cmp (over a) d ≡ false

  -- the dots that the operation names
  abbrev pub named_by : Dot → A → Dots
  named_by d a = set.from_list (d ∷ over a)

  -- the known dots are those that the operations have or replace
  abbrev pub AreNamedIn : List (Dot × A) → Dots → Type 0
  AreNamedIn os known = (x : Dot) → set.contains known x ≡ list_any (names x) os
