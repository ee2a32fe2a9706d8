-- The deltas of start wishes, in their stored form.
use Rattle.std.specs.Prelude.{◌≡◌, Bool, true, false, cond, ◌&&◌, ◌||◌, Some, None, nat_eq, ◌+◌, refl}
use Rattle.std.proofs.Common.{sym, ap, ◌∙◌}
use Rattle.std.specs.Ordering.{eq_by_cmp}
use Rattle.std.specs.FinSet as set
use Rattle.std.specs.FinMap.{find}
use Rattle.std.proofs.lemmas.Bool.{or_left, false≢true}
use Rattle.std.proofs.Math.Bool.{or-false}
use Rattle.dac_origins.specs.declared.dot.Dot.{Dot}
use Rattle.dac_origins.specs.Dots.{dot_cmp}
use Rattle.dac_origins.specs.laws.Dots.{dots_total}
use Rattle.dac_lattice.specs.Chains.{IsAny}
use Rattle.dac_store.specs.Stores.{IsHeld}
use Rattle.dac_store.specs.DotSets.{is_empty_set}
use Rattle.dac_store.specs.DotMaps.{has_in, store_at, IsKept, IsKeyed}
use Rattle.dac_wishes.specs.declared.wish_act.WishAct.{WishAct}
use Rattle.dac_wishes.specs.declared.wish_act.WishAct.TheVariants.{Start, Other as OtherWish}
use Rattle.dac_wishes.specs.Keys.{key_cmp, same_key}
use Rattle.dac_wishes.specs.Writes.{Write, same_dot}
use Rattle.dac_wishes.specs.laws.WishesValue.{same_wishes}
use Rattle.dac_wishes.specs.Replacing.{named_by, replaces}
use Rattle.dac_wishes.specs.laws.Replacing.{contains-named_by}
use Rattle.dac_wishes.specs.StoredWishes.{StoredDots, wishes_of}
use Rattle.dac_wishes.specs.laws.StartsByKey.{contains-writes_of}
use Rattle.dac_wishes.specs.WishMeaning.{wish_delta}
use Rattle.dac_wishes.specs.laws.WishMeaning.{contains-delta}
use Rattle.dac_wishes.specs.WishMeaning as wish
use Rattle.dac_wishes.specs.StoredDeltas.{stored_start}

-- ---- starts

-- the set of one dot
one_dot : (d x : Dot) → set.contains (set.insert (set.empty {R = dot_cmp}) d) x ≡ same_dot x d
one_dot d x = set.contains-insert dots_total set.empty d x ∙ ap (λ b. same_dot x d || b) (set.contains-empty dot_cmp x) ∙ or-false (same_dot x d)

pub one_not_empty : (d : Dot) → is_empty_set (set.insert (set.empty {R = dot_cmp}) d) ≡ false
one_not_empty d =
    ap (λ n. nat_eq n 0) (set.len-insert dots_total (set.empty {R = dot_cmp}) d
    ∙ ap (λ b. cond b (set.len (set.empty {R = dot_cmp})) (set.len (set.empty {R = dot_cmp}) + 1)) (set.contains-empty dot_cmp d)
    ∙ ap (λ n. n + 1) (set.len-empty dot_cmp))

start_kept : (d : Dot) (b : Bool) → IsKept IsAny is_empty_set (cond b (Some (set.insert (set.empty {R = dot_cmp}) d)) None)
start_kept d true = (tt, one_not_empty d)
start_kept d false = tt

pub start_keyed : (d : Dot) (a : WishAct) → IsKeyed key_cmp IsAny is_empty_set (stored_start d a)
start_keyed d (Start key over) = record { in_order = tt; stores = λ k. start_kept d (eq_by_cmp key_cmp k key) }
start_keyed d (OtherWish over) = record { in_order = tt; stores = λ k. tt }

start_held : (d : Dot) (a : WishAct) (x : Dot) → has_in set.contains (stored_start d a) x ≡ true → same_dot x d ≡ true
start_held d (Start key over) x e = sym (one_dot d x) ∙ sym (or-false _) ∙ e
start_held d (OtherWish over) x e = absurd (false≢true e)

-- a delta's dot is known
pub start_known : (d : Dot) (a : WishAct) → IsHeld (has_in set.contains (stored_start d a)) (named_by wish.over_of d a)
start_known d a x e = contains-named_by wish.over_of d a x ∙ or_left (same_dot x d) (replaces wish.over_of x (d, a)) (start_held d a x e)

-- the stored form of a wish's delta
abbrev pub stored_wish : Dot → WishAct → StoredDots
stored_wish d a = record { store = stored_start d a; context = named_by wish.over_of d a }

start_at : (d : Dot) (k e : Bool) (x : Dot) → same_dot x d ≡ e → set.contains (store_at set.empty (cond k (Some (set.insert (set.empty {R = dot_cmp}) d)) None)) x ≡ (k && e)
start_at d true e x is = one_dot d x ∙ is
start_at d false e x is = set.contains-empty dot_cmp x

start_there : (d : Dot) (a : WishAct) (w : Write) → set.contains (store_at set.empty (find key_cmp w.key (stored_start d a))) w.dot ≡ wish.is_start w (d, a)
start_there d (Start key over) w = start_at d (same_key w.key key) (same_dot w.dot d) w.dot refl
start_there d (OtherWish over) w = set.contains-empty dot_cmp w.dot

pub wishes_of-delta : (d : Dot) (a : WishAct) → wishes_of (stored_wish d a) ≡ wish_delta d a
wishes_of-delta d a = same_wishes (wishes_of (stored_wish d a)) (wish_delta d a) refl (λ w.
    contains-writes_of (stored_start d a) (start_keyed d a).in_order w ∙ start_there d a w ∙ sym (contains-delta d a w))
