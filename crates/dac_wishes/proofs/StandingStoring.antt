-- What stands of a set of operations, in its stored form.
use Rattle.std.proofs.Common.{◌≡◌, ◌↔◌, Bool, List, [], ◌∷◌, Option, None, Some, ap}
use Rattle.std.specs.FinSet as set
use Rattle.dac_origins.specs.declared.dot.Dot.{Dot}
use Rattle.dac_origins.specs.declared.dot.Origin.{Origin}
use Rattle.dac_origins.specs.Dots.{Dots, origin_cmp}
use Rattle.dac_origins.specs.laws.Dots.{origins_total, exact_origins}
use Rattle.dac_lattice.specs.Flags.{IsFlagBelow, join_flags}
use Rattle.dac_store.specs.DotFuns.{IsFunBelow, join_funs, is_empty_list}
use Rattle.dac_store.specs.DotMaps.{IsKeyedBelow, join_keyed}
use Rattle.dac_store.specs.DotSets.{IsSetBelow, join_sets, is_empty_set}
use Rattle.dac_store.specs.Stores.{IsStoredBelow}
use Rattle.dac_wishes.specs.declared.key.Key.{Key}
use Rattle.dac_wishes.specs.Keys.{key_cmp}
use Rattle.dac_wishes.specs.laws.Keys.{keys_total, exact_keys}
use Rattle.dac_wishes.specs.Covering.{permit_act, drain_act, wish_act}
use Rattle.dac_wishes.specs.PermissionsValue.{IsPermissionsBelow}
use Rattle.dac_wishes.specs.WishesValue.{AreWishesBelow}
use Rattle.dac_wishes.specs.DrainsValue.{AreDrainsBelow}
use Rattle.dac_wishes.specs.PermitMeaning.{permit_delta, over_of as permits_over, vote_of as permits_by}
use Rattle.dac_wishes.specs.DrainMeaning.{drain_delta, over_of as drains_over, vote_of as drains_by}
use Rattle.dac_wishes.specs.WishMeaning.{wish_delta}
use Rattle.dac_wishes.specs.StandingValue.{AreStanding, join_standing, permissions_in, wishes_in, drains_in}
use Rattle.dac_wishes.specs.StoredVotes.{DotFlags, stored_vote}
use Rattle.dac_wishes.specs.StoredWishes.{StoredDots, AreStoredDots, wishes_of}
use Rattle.dac_wishes.specs.StoredPermits.{StoredFlags, permissions_of}
use Rattle.dac_wishes.specs.StoredDrains.{StoredDrains, drains_of}
use Rattle.dac_wishes.specs.StoredDeltas.{start_stored}
use Rattle.dac_wishes.specs.StoredStanding.{AreStoredBeside, stored_standing}
use Rattle.dac_wishes.proofs.VoteStoring as votes
use Rattle.dac_wishes.proofs.VoteStoring.{votes_value_of-delta, vote_beside}
use Rattle.dac_wishes.proofs.WishStoring as wishes
use Rattle.dac_wishes.proofs.DeltaStoring.{start_keyed, start_known, wishes_of-delta}

-- ---- deltas

-- the dots that an operation names
abbrev named : Dot → List Dot → Dots
named d over = set.from_list (d ∷ over)

pub permits_of-delta : (d : Dot) (permit : Option (Key × Bool)) (over : List Dot)
    → permissions_of (record { store = stored_vote d (permits_by (permit_act permit over)); context = named d over }) ≡ permit_delta d (permit_act permit over)
permits_of-delta d None over = votes_value_of-delta keys_total exact_keys permits_over permits_by d (permit_act None over)
permits_of-delta d (Some p) over = votes_value_of-delta keys_total exact_keys permits_over permits_by d (permit_act (Some p) over)

pub drains_of-delta : (d : Dot) (drain : Option (Origin × Bool)) (over : List Dot)
    → drains_of (record { store = stored_vote d (drains_by (drain_act drain over)); context = named d over }) ≡ drain_delta d (drain_act drain over)
drains_of-delta d None over = votes_value_of-delta origins_total exact_origins drains_over drains_by d (drain_act None over)
drains_of-delta d (Some p) over = votes_value_of-delta origins_total exact_origins drains_over drains_by d (drain_act (Some p) over)

pub starts_of-delta : (d : Dot) (start : Option Key) (over : List Dot)
    → wishes_of (record { store = start_stored d start; context = named d over }) ≡ wish_delta d (wish_act start over)
starts_of-delta d None over = wishes_of-delta d (wish_act None over)
starts_of-delta d (Some key) over = wishes_of-delta d (wish_act (Some key) over)

start_beside : (d : Dot) (start : Option Key) (over : List Dot) → AreStoredDots (record { store = start_stored d start; context = named d over })
start_beside d None over = record { store = start_keyed d (wish_act None over); held = start_known d (wish_act None over) }
start_beside d (Some key) over = record { store = start_keyed d (wish_act (Some key) over); held = start_known d (wish_act (Some key) over) }

pub delta_beside : (d : Dot) (over : List Dot) (permit : Option (Key × Bool)) (start : Option Key) (drain : Option (Origin × Bool))
    → AreStoredBeside (named d over) (stored_vote d (permits_by (permit_act permit over))) (start_stored d start) (stored_vote d (drains_by (drain_act drain over)))
delta_beside d over permit start drain = record {
  permits = vote_beside key_cmp d (permits_by (permit_act permit over)) over;
  starts = start_beside d start over;
  drains = vote_beside origin_cmp d (drains_by (drain_act drain over)) over;
}

-- ---- order and join

-- each piece with the known dots
abbrev permits_beside : Dots → List (Key × DotFlags) → StoredFlags
permits_beside known store = record { store = store; context = known }

abbrev starts_beside : Dots → List (Key × Dots) → StoredDots
starts_beside known store = record { store = store; context = known }

abbrev drains_beside : Dots → List (Origin × DotFlags) → StoredDrains
drains_beside known store = record { store = store; context = known }

-- the joins of the stores
abbrev pub join_permits : List (Key × DotFlags) → Dots → List (Key × DotFlags) → Dots → List (Key × DotFlags)
join_permits = join_keyed key_cmp [] is_empty_list (join_funs join_flags)

abbrev pub join_starts : List (Key × Dots) → Dots → List (Key × Dots) → Dots → List (Key × Dots)
join_starts = join_keyed key_cmp set.empty is_empty_set join_sets

abbrev pub join_drains : List (Origin × DotFlags) → Dots → List (Origin × DotFlags) → Dots → List (Origin × DotFlags)
join_drains = join_keyed origin_cmp [] is_empty_list (join_funs join_flags)

module _ {c : Dots} {p : List (Key × DotFlags)} {s : List (Key × Dots)} {m : List (Origin × DotFlags)} (a : AreStoredBeside c p s m) where
  pub are_standing : AreStanding (stored_standing c p s m)
  are_standing = record {
    permits = votes.stored_votes keys_total exact_keys (permits_beside c p) a.permits;
    starts = wishes.stored_wishes (starts_beside c s) a.starts;
    drains = votes.stored_votes origins_total exact_origins (drains_beside c m) a.drains;
  }

  module _ {e : Dots} {q : List (Key × DotFlags)} {t : List (Key × Dots)} {n : List (Origin × DotFlags)} (b : AreStoredBeside e q t n) where
    pub joined_beside : AreStoredBeside (set.union c e) (join_permits p c q e) (join_starts s c t e) (join_drains m c n e)
    joined_beside = record {
      permits = votes.joined_stored keys_total exact_keys (permits_beside c p) (permits_beside e q) a.permits b.permits;
      starts = wishes.joined_stored (starts_beside c s) (starts_beside e t) a.starts b.starts;
      drains = votes.joined_stored origins_total exact_origins (drains_beside c m) (drains_beside e n) a.drains b.drains;
    }

    -- the join of stored forms represents the join
    pub standing-join : stored_standing (set.union c e) (join_permits p c q e) (join_starts s c t e) (join_drains m c n e) ≡ join_standing (stored_standing c p s m) (stored_standing e q t n)
    standing-join =
        let permits = votes.votes_value_of-join keys_total exact_keys (permits_beside c p) (permits_beside e q) a.permits b.permits in
        let starts = wishes.wishes_of-join (starts_beside c s) (starts_beside e t) a.starts b.starts in
        let drains = votes.votes_value_of-join origins_total exact_origins (drains_beside c m) (drains_beside e n) a.drains b.drains in
        λ i. record { known = set.union c e; permits = (permits i).standing; starts = (starts i).standing; drains = (drains i).standing }

    -- the orders of the pieces
    pub permits_order : IsStoredBelow (IsKeyedBelow key_cmp [] (IsFunBelow IsFlagBelow)) (permits_beside c p) (permits_beside e q) ↔ IsPermissionsBelow (permissions_of (permits_beside c p)) (permissions_of (permits_beside e q))
    permits_order = (
      votes.below_if_stored keys_total exact_keys (permits_beside c p) (permits_beside e q) a.permits b.permits,
      votes.stored_if_below keys_total exact_keys (permits_beside c p) (permits_beside e q) a.permits b.permits,
    )

    pub starts_order : IsStoredBelow (IsKeyedBelow key_cmp set.empty IsSetBelow) (starts_beside c s) (starts_beside e t) ↔ AreWishesBelow (wishes_of (starts_beside c s)) (wishes_of (starts_beside e t))
    starts_order = (
      wishes.below_if_stored (starts_beside c s) (starts_beside e t) a.starts b.starts,
      wishes.stored_if_below (starts_beside c s) (starts_beside e t) a.starts b.starts,
    )

    pub drains_order : IsStoredBelow (IsKeyedBelow origin_cmp [] (IsFunBelow IsFlagBelow)) (drains_beside c m) (drains_beside e n) ↔ AreDrainsBelow (drains_of (drains_beside c m)) (drains_of (drains_beside e n))
    drains_order = (
      votes.below_if_stored origins_total exact_origins (drains_beside c m) (drains_beside e n) a.drains b.drains,
      votes.stored_if_below origins_total exact_origins (drains_beside c m) (drains_beside e n) a.drains b.drains,
    )

    -- stored forms of the same value are equal, piece by piece
    pub same_permits : stored_standing c p s m ≡ stored_standing e q t n → permits_beside c p ≡ permits_beside e q
    same_permits same = votes.same_stored keys_total exact_keys (permits_beside c p) (permits_beside e q) a.permits b.permits (ap permissions_in same)

    pub same_starts : stored_standing c p s m ≡ stored_standing e q t n → starts_beside c s ≡ starts_beside e t
    same_starts same = wishes.same_stored (starts_beside c s) (starts_beside e t) a.starts b.starts (ap wishes_in same)

    pub same_drains : stored_standing c p s m ≡ stored_standing e q t n → drains_beside c m ≡ drains_beside e n
    same_drains same = votes.same_stored origins_total exact_origins (drains_beside c m) (drains_beside e n) a.drains b.drains (ap drains_in same)
