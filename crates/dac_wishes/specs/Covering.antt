-- The standing writes that a value above an operation's delta can contain. A value that knows the operation's dots is
-- above the delta exactly if it can contain all its standing writes.
use Rattle.std.specs.Prelude.{Bool, true, false, not, List, Option, None, Some, if◌then◌else◌}
use Rattle.std.specs.declared.cmp.Ordering.{Ordering}
use Rattle.std.specs.List.{list_all}
use Rattle.dac_origins.specs.declared.dot.Dot.{Dot}
use Rattle.dac_origins.specs.declared.dot.Origin.{Origin}
use Rattle.dac_origins.specs.Dots.{dot_cmp}
use Rattle.dac_origins.specs.Keys.{has_key}
use Rattle.dac_origins.specs.InOrder.{in_order}
use Rattle.dac_origins.specs.Dots.{Dots}
use Rattle.dac_lattice.specs.declared.flags.Flag.{Flag}
use Rattle.dac_lattice.specs.declared.flags.Flag.TheVariants.{Up, Down}
use Rattle.dac_wishes.specs.declared.key.Key.{Key}
use Rattle.dac_wishes.specs.declared.permit_act.PermitAct.{PermitAct}
use Rattle.dac_wishes.specs.declared.permit_act.PermitAct.TheVariants.{Permit, Other as NoPermit}
use Rattle.dac_wishes.specs.declared.drain_act.DrainAct.{DrainAct}
use Rattle.dac_wishes.specs.declared.drain_act.DrainAct.TheVariants.{Drain, Other as NoDrain}
use Rattle.dac_wishes.specs.declared.wish_act.WishAct.{WishAct}
use Rattle.dac_wishes.specs.declared.wish_act.WishAct.TheVariants.{Start, Other as NoWish}
use Rattle.dac_wishes.specs.KeyedWrites.{same_dot}
use Rattle.dac_wishes.specs.Keys.{same_key}
use Rattle.dac_wishes.specs.StoredVotes.{DotFlags}
use Rattle.dac_wishes.specs.VoteMeaning.{says_of}

-- ---- acts, from the key written and the dots replaced

-- a permit of a key, if any, and the dots that it replaces
abbrev pub permit_act : Option (Key × Bool) → List Dot → PermitAct
permit_act None over = NoPermit over
permit_act (Some p) over = Permit p.0 p.1 over

-- a drain of an incarnation, if any, and the dots that it replaces
abbrev pub drain_act : Option (Origin × Bool) → List Dot → DrainAct
drain_act None over = NoDrain over
drain_act (Some p) over = Drain p.0 p.1 over

-- a start of a key, if any, and the dots that it replaces
abbrev pub wish_act : Option Key → List Dot → WishAct
wish_act None over = NoWish over
wish_act (Some key) over = Start key over

-- ---- votes

-- there is a flag, and it is at most the standing one
abbrev pub is_flag_at_most : Option Flag → Flag → Bool
is_flag_at_most None g = false
is_flag_at_most (Some Up) g = true
is_flag_at_most (Some Down) Up = false
is_flag_at_most (Some Down) Down = true

module _ {K : Type 0} (R : K → K → Ordering) (dot : Dot) (vote : Option (K × Flag)) (over : List Dot) where
  -- A value above the delta can contain the vote: it is the operation's own, with a flag at least the operation's, or
  -- isn't replaced by it.
  abbrev pub lets_stand : K → Dot × Flag → Bool
  lets_stand key p = if same_dot p.0 dot then is_flag_at_most (says_of R key vote) p.1 else not (has_key dot_cmp over p.0)

  -- a value above the delta can contain each vote at each key
  abbrev pub let_stand : List (K × DotFlags) → Bool
  let_stand m = list_all (λ (e : K × DotFlags). list_all (lets_stand e.0) e.1) m

-- ---- start wishes

-- the operation starts the key
abbrev pub is_wish_of : Option Key → Key → Bool
is_wish_of None key = false
is_wish_of (Some k) key = same_key key k

module _ (dot : Dot) (start : Option Key) (over : List Dot) where
  -- A value above the delta can contain the wish: it is the operation's own, or isn't replaced by it.
  abbrev pub lets_wish : Key → Dot → Bool
  lets_wish key d = if same_dot d dot then is_wish_of start key else not (has_key dot_cmp over d)

  -- a value above the delta can contain each wish at each key
  abbrev pub let_wishes : List (Key × Dots) → Bool
  let_wishes m = list_all (λ (e : Key × Dots). list_all (lets_wish e.0) (in_order e.1)) m
