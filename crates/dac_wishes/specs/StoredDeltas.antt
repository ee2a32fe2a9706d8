-- The stored form of the start wishes of operations.
use Rattle.std.specs.Prelude.{List, [], ◌∷◌, Option, None, Some}
use Rattle.std.specs.FinSet as set
use Rattle.dac_origins.specs.declared.dot.Dot.{Dot}
use Rattle.dac_origins.specs.Dots.{Dots}
use Rattle.dac_wishes.specs.declared.key.Key.{Key}
use Rattle.dac_wishes.specs.declared.wish_act.WishAct.{WishAct}
use Rattle.dac_wishes.specs.declared.wish_act.WishAct.TheVariants.{Start, Other as OtherWish}

-- the stored form of a start of a key, if any
abbrev pub start_stored : Dot → Option Key → List (Key × Dots)
start_stored d None = []
start_stored d (Some key) = (key, set.insert set.empty d) ∷ []

-- the stored form of a start, if the act is one
abbrev pub stored_start : Dot → WishAct → List (Key × Dots)
stored_start d (Start key over) = start_stored d (Some key)
stored_start d (OtherWish over) = []
