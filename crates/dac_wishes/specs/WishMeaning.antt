-- The meaning of a set of operations for start wishes: the standing starts, and the known dots.
use Rattle.std.specs.Prelude.{◌≡◌, Bool, false, not, ◌&&◌, List, [], ◌∷◌}
use Rattle.std.specs.List.{list_any}
use Rattle.std.specs.FinSet as set
use Rattle.dac_origins.specs.declared.dot.Dot.{Dot}
use Rattle.dac_wishes.specs.declared.key.Key.{Key}
use Rattle.dac_wishes.specs.declared.wish_act.WishAct.{WishAct}
use Rattle.dac_wishes.specs.declared.wish_act.WishAct.TheVariants.{Start, Other}
use Rattle.dac_wishes.specs.Keys.{same_key}
use Rattle.dac_wishes.specs.Writes.{Write, write}
use Rattle.dac_wishes.specs.WishesValue.{WishesValue}
use Rattle.dac_wishes.specs.Replacing.{is_under, is_replaced, named_by, AreNamedIn}

-- the dots that an act replaces
abbrev pub over_of : WishAct → List Dot
over_of (Start key over) = over
over_of (Other over) = over

-- the act starts the key
abbrev pub wishes : Key → WishAct → Bool
wishes key (Start k over) = same_key key k
wishes key (Other over) = false

-- the operation writes this wish
abbrev pub is_start : Write → Dot × WishAct → Bool
is_start w o = wishes w.key o.1 && is_under w.dot o

-- The value is the meaning of the operations: a wish stands if one of them writes it and none replaces its dot.
pub record IsMeaning (os : List (Dot × WishAct)) (v : WishesValue) : Type 0 where
  pub known : AreNamedIn over_of os v.known
  pub standing : (w : Write)
      → set.contains v.standing w ≡ (list_any (is_start w) os && not (is_replaced over_of w.dot os))

-- the wish of an operation, as a list
abbrev pub starts_in : Dot → WishAct → List Write
starts_in d (Start key over) = write key d ∷ []
starts_in d (Other over) = []

-- the delta of one operation
abbrev pub wish_delta : Dot → WishAct → WishesValue
wish_delta d a = record { known = named_by over_of d a; standing = set.from_list (starts_in d a) }
