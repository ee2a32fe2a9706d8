-- A walk through entries in the order of their keys: lookups after some entries were passed.
use Rattle.std.proofs.Common.{◌≡◌, ◌∙◌, ℕ, ◌+◌, ◌<◌, ◌≤◌, ◌==◌, Bool, true, false, cond, List, [], ◌∷◌, nat_eq, Option, None, Some, Bor, is_some, length, refl, sym, ap, subst, arith, true≢false}
use Rattle.dac_status.proofs.Common.{both_ways, false≢true, eqb-true, AppId, NodeId, key_cmp, is_permitted_by, are_permits, are_starts, Table, is_permitted_at, StateValue, IsBefore, WalkValue, first_key}
use Rattle.std.specs.Prelude.{nat_lt}
use Rattle.std.specs.List.{list_all, list_any}
use Rattle.std.specs.Option.{option_copied}
use Rattle.std.specs.declared.cmp.Ordering.{Ordering}
use Rattle.std.specs.declared.cmp.Ordering.TheVariants.{Less, Equal, Greater}
use Rattle.std.specs.Ordering.{is_lt, nat_cmp, ordering_reverse, ordering_then}
use Rattle.std.specs.Cmp.{tied_itself}
use Rattle.std.specs.FinMap.{find}
use Rattle.std.specs.FinSet as set
use Rattle.std.proofs.lemmas.Bool.{false_from_ne_true, or_left, ltb-true}
use Rattle.dac_base.specs.Ids.{node_cmp}
use Rattle.dac_base.specs.laws.Ids.{apps_total, nodes_total}
use Rattle.dac_origins.specs.declared.dot.Dot.{Dot}
use Rattle.dac_origins.specs.Dots.{Dots, dot_cmp}
use Rattle.dac_lattice.specs.declared.flags.Flag.{Flag}
use Rattle.dac_lattice.specs.Chains.{IsAny}
use Rattle.dac_sorted.specs.Parts.{HasSameFrom}
use Rattle.dac_store.specs.DotMaps.{IsKept, store_at}
use Rattle.dac_store.specs.DotSets.{is_empty_set}
use Rattle.dac_store.specs.laws.DotSets.{set_laws}
use Rattle.dac_wishes.specs.declared.key.Key.{Key}
use Rattle.dac_wishes.specs.laws.Keys.{exact_keys, keys_total}
use Rattle.dac_wishes.specs.Writes.{Writes, same_dot, write}
use Rattle.dac_wishes.specs.laws.KeyedWrites.{same_dot_itself}
use Rattle.dac_wishes.specs.PermissionsValue.{permits_at, is_permitting}
use Rattle.dac_wishes.specs.PermitsByKey.{permits_by_key}
use Rattle.dac_wishes.specs.laws.PermitsByKey.{by_key_again, permits_stored}
use Rattle.dac_wishes.specs.StoredPermits.{DotFlags}
use Rattle.dac_wishes.specs.StartsByKey.{starts_by_key}
use Rattle.dac_wishes.specs.laws.StartsByKey.{contains-writes_of, writes_again}
use Rattle.dac_wishes.specs.WishesValue.{is_wished}
use Rattle.dac_wishes.specs.laws.Wished.{is_wished-some}
use Rattle.dac_config.specs.Table.{default_permission}
use Rattle.dac_meaning.specs.StateValue.{wishes_of}

-- ---- keys in order

lower_from : (r : Ordering) → is_lt r ≡ true → r ≡ Less
lower_from Less e = refl
lower_from Equal e = cc
lower_from Greater e = cc

own : (key : Key) → is_lt (key_cmp key key) ≡ false
own key = ap is_lt (tied_itself keys_total key)

-- a key that isn't below the later key isn't below the earlier one
not_below : (a b k : Key) → is_lt (key_cmp b a) ≡ false → is_lt (key_cmp k b) ≡ false → is_lt (key_cmp k a) ≡ false
not_below a b k later past = false_from_ne_true (is_lt (key_cmp k a)) (λ t.
    let lower = lower_from (key_cmp k a) t in
    elim (key_cmp b a) as (λ r. key_cmp b a ≡ r → is_lt r ≡ false → ⊥) [
      | Less ↦ λ is e. true≢false e
      | Equal ↦ λ is e. true≢false (sym (ap is_lt (ap (key_cmp k) (exact_keys b a is) ∙ lower)) ∙ past)
      | Greater ↦ λ is e. true≢false (sym (ap is_lt (keys_total.trans k a b lower (keys_total.antisymm a b ∙ ap ordering_reverse is))) ∙ past)
    ] refl later)

not_less : (x y : ℕ) → y ≤ x → nat_lt x y ≡ false
not_less x y le = false_from_ne_true (nat_lt x y) (λ t. let lt = ltb-true x y t in omega (arith, le, lt))

greater : (x y : ℕ) → y < x → nat_cmp x y ≡ Greater
greater x y lt =
    let other : (x == y) ≡ false = false_from_ne_true (x == y) (λ t. let same = eqb-true x y t in omega (arith, lt, same)) in
    ap (λ b. cond b Less (cond (x == y) Equal Greater)) (not_less x y (omega (arith, lt))) ∙ ap (λ b. cond b Equal Greater) other

-- no key of a node is below its first one
from_first : (app : AppId) (node : NodeId) (inc : ℕ) → is_lt (key_cmp (record { app = app; node = node; inc = inc }) (first_key app.0 node.0)) ≡ false
from_first app node inc =
    ap (λ r. is_lt (ordering_then r (ordering_then (node_cmp node node) (nat_cmp inc 0)))) (tied_itself apps_total app)
    ∙ ap (λ r. is_lt (ordering_then r (nat_cmp inc 0))) (tied_itself nodes_total node)
    ∙ ap (λ b. is_lt (cond b Less (cond (inc == 0) Equal Greater))) (not_less inc 0 (omega arith))
    ∙ elim (inc == 0) as (λ b. is_lt (cond b Equal Greater) ≡ false) [ true ↦ refl | false ↦ refl ]

-- the first key of the next node isn't below any key of the node
next_node : (app : AppId) (node : NodeId) (inc : ℕ) → is_lt (key_cmp (first_key app.0 (node.0 + 1)) (record { app = app; node = node; inc = inc })) ≡ false
next_node app node inc =
    ap (λ r. is_lt (ordering_then r (ordering_then (nat_cmp (node.0 + 1) node.0) (nat_cmp 0 inc)))) (tied_itself apps_total app)
    ∙ ap (λ r. is_lt (ordering_then r (nat_cmp 0 inc))) (greater (node.0 + 1) node.0 (omega arith))

-- the first key of the next application isn't below the first key of any node of this one
next_app : (app node : ℕ) → is_lt (key_cmp (first_key (app + 1) 0) (first_key app node)) ≡ false
next_app app node = ap (λ r. is_lt (ordering_then r (ordering_then (nat_cmp 0 node) (nat_cmp 0 0)))) (greater (app + 1) app (omega arith))

-- ---- entries that are passed

module _ {X : Type 0} where
  -- two walks in sequence are one
  pub same_after : (key : Key) (all old new : List (Key × X)) → HasSameFrom key_cmp key all old → HasSameFrom key_cmp key old new → HasSameFrom key_cmp key all new
  same_after key all old new one other k past = other k past ∙ one k past

  same_later : (a b : Key) (old new : List (Key × X)) → is_lt (key_cmp b a) ≡ false → HasSameFrom key_cmp a old new → HasSameFrom key_cmp b old new
  same_later a b old new later same k past = same k (not_below a b k later past)

-- ---- the walk through a state

pub before_later : (a b : Key) (walk : WalkValue) → is_lt (key_cmp b a) ≡ false → IsBefore a walk → IsBefore b walk
before_later a b walk later before = record {
  permits = same_later a b (permits_by_key walk.state.permits) walk.permits later before.permits;
  starts = same_later a b (starts_by_key walk.state.starts) walk.starts later before.starts;
}

pub before_incarnation : (app : AppId) (node : NodeId) (inc : ℕ) (walk : WalkValue) → IsBefore (first_key app.0 node.0) walk → IsBefore (record { app = app; node = node; inc = inc }) walk
before_incarnation app node inc walk before = before_later (first_key app.0 node.0) (record { app = app; node = node; inc = inc }) walk (from_first app node inc) before

pub before_next_node : (app : AppId) (node : NodeId) (inc : ℕ) (walk : WalkValue) → IsBefore (record { app = app; node = node; inc = inc }) walk → IsBefore (first_key app.0 (node.0 + 1)) walk
before_next_node app node inc walk before = before_later (record { app = app; node = node; inc = inc }) (first_key app.0 (node.0 + 1)) walk (next_node app node inc) before

pub before_next_app : (app node : ℕ) (walk : WalkValue) → IsBefore (first_key app node) walk → IsBefore (first_key (app + 1) 0) walk
before_next_app app node walk before = before_later (first_key app node) (first_key (app + 1) 0) walk (next_app app node) before

-- the permits found at a key in the rest are those that stand there
pub permits_left : (key : Key) (s : StateValue) (left : List (Key × DotFlags)) → HasSameFrom key_cmp key (permits_by_key s.permits) left → store_at [] (find key_cmp key left) ≡ permits_at key s.permits
permits_left key s left same =
    ap (λ found. store_at [] found) (same key (own key))
    ∙ permits_stored (permits_by_key s.permits) (are_permits s.permits) key
    ∙ ap (permits_at key) (by_key_again s.permits)

-- a set that isn't empty has a dot
some_dot : (s : Dots) → is_empty_set s ≡ false → (d : Dot) × (set.contains s d ≡ true)
some_dot s e = elim (set.items s) as (λ ks. ((q : Dot) → set.contains s q ≡ list_any (same_dot q) ks) → (d : Dot) × (set.contains s d ≡ true)) [
  | [] ↦ λ h. absurd (false≢true (sym e ∙ set_laws.bare s tt h))
  | d ∷ ds ↦ λ h. (d, h d ∙ or_left (same_dot d d) (list_any (same_dot d) ds) (same_dot_itself d))
] (set.contains-items s)

module _ (key : Key) (writes : Writes) where
  -- a start stands exactly when its dot is kept at its key
  stands : (d : Dot) → set.contains writes (write key d) ≡ set.contains (store_at set.empty (find key_cmp key (starts_by_key writes))) d
  stands d = ap (λ ws. set.contains ws (write key d)) (sym (writes_again writes)) ∙ contains-writes_of (starts_by_key writes) (are_starts writes).in_order (write key d)

  some_if_kept : is_some (find key_cmp key (starts_by_key writes)) ≡ true → (d : Dot) × (set.contains writes (write key d) ≡ true)
  some_if_kept e = elim (find key_cmp key (starts_by_key writes)) as (λ o. find key_cmp key (starts_by_key writes) ≡ o → IsKept IsAny is_empty_set o → is_some o ≡ true → (d : Dot) × (set.contains writes (write key d) ≡ true)) [
    | None ↦ λ is kept e. absurd (false≢true e)
    | Some s ↦ λ is kept e.
        let d = some_dot s kept.1 in
        (d.0, stands d.0 ∙ ap (λ o. set.contains (store_at set.empty o) d.0) is ∙ d.1)
  ] refl ((are_starts writes).stores key) e

  kept_if_some : (d : Dot) → set.contains writes (write key d) ≡ true → is_some (find key_cmp key (starts_by_key writes)) ≡ true
  kept_if_some d h = elim (find key_cmp key (starts_by_key writes)) as (λ o. set.contains (store_at set.empty o) d ≡ true → is_some o ≡ true) [
    | None ↦ λ h. absurd (false≢true (sym (set.contains-empty dot_cmp d) ∙ h))
    | Some s ↦ λ h. refl
  ] (sym (stands d) ∙ h)

-- a start found at a key in the rest stands there
pub started_left : (key : Key) (s : StateValue) (left : List (Key × Dots)) → HasSameFrom key_cmp key (starts_by_key s.starts) left → is_some (find key_cmp key left) ≡ is_wished key (wishes_of s)
started_left key s left same =
    let words = is_wished-some key (wishes_of s) in
    ap is_some (same key (own key))
    ∙ both_ways _ _
    (λ h. words.1 (some_if_kept key s.starts h))
    (λ h. let d = words.0 h in kept_if_some key s.starts d.0 d.1)

-- if there are permits, all must say true
pub by_permits : (default : Bool) (ps : DotFlags) → nat_eq (length ps) 0 ≡ false → is_permitted_by default ps ≡ list_all (λ (p : Dot × Flag). is_permitting p.1) ps
by_permits default [] e = absurd (true≢false e)
by_permits default (p ∷ ps) e = refl

-- the permits found in the rest decide as those of the state
pub permitted_left : (table : Table) (key : Key) (s : StateValue) (left : List (Key × DotFlags)) (found : Option DotFlags) → found ≡ find key_cmp key left → HasSameFrom key_cmp key (permits_by_key s.permits) left
    → is_permitted_by (default_permission table key.app) (store_at [] found) ≡ is_permitted_at table s key
permitted_left table key s left found is same = ap (λ ps. is_permitted_by (default_permission table key.app) ps) (ap (λ f. store_at [] f) is ∙ permits_left key s left same)

-- ---- a walk by its fields

module _ (key : Key) (s : StateValue) (permits : List (Key × DotFlags)) (starts : List (Key × Dots)) (walk : WalkValue) (is : record { state = s; permits = permits; starts = starts } ≡ walk) where
  pub before_inside : IsBefore key walk → IsBefore key (record { state = s; permits = permits; starts = starts })
  before_inside before = subst (IsBefore key) (sym is) before

  -- passing some permits below the key
  pub before_passed : (left : List (Key × DotFlags)) → HasSameFrom key_cmp key permits left → IsBefore key walk → IsBefore key (record { state = s; permits = left; starts = starts })
  before_passed left same before =
      let was = before_inside before in
      record {
        permits = same_after key (permits_by_key s.permits) permits left was.permits same;
        starts = was.starts;
      }

pub is_some-copied : {X : Type 0} (o : Option (Bor X)) → is_some o ≡ is_some (option_copied o)
is_some-copied None = refl
is_some-copied (Some x) = refl
