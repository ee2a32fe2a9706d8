-- The operation of a command is in form, because a command whose operation bytes can't encode is refused.
use Rattle.std.proofs.Common.{◌≡◌, ℕ, ◌+◌, ◌<◌, ◌≤◌, ◌^◌, true, false, not, ◌||◌, List, [], ◌∷◌, length, Option, None, Some, is_some, is_eq, refl, sym, ap, subst, ◌∙◌, arith, leb-true, leb-false, ltb-true, ltb-false, true≢false}
use Rattle.dac_in_form.proofs.Common.{AllByRecursion, option_map, eq_by_cmp, MAX_COUNTER, NodeId, AppId, Dot, Origin, dot, dot_cmp, IsNext, has_key, dots_total, exact_dots, Key, write, Act, has_bad_over, fault_of, StateValue, Table, node_count, app_count, IsIncarnation, IsOrigin, IsDot, Two, IsConsistentOrigin, IsKey, is_listed, AreOver, IsAct, IsOperation, next_operation, no_node, none_is, some_same}
use Rattle.std.specs.FinSet as set
use Rattle.std.specs.FinMap as map
use Rattle.std.proofs.lemmas.Bool.{not-false, or_left, or_right}
use Rattle.std.proofs.lemmas.Cmp.{tied_itself}
use Rattle.dac_base.specs.declared.limits.TheConstants.{MAX_REPLACED}
use Rattle.dac_origins.specs.Keys.{IsRising}
use Rattle.dac_origins.specs.laws.InOrder.{in_order-rising, has_key-in_order}
use Rattle.dac_lattice.specs.declared.flags.Flag.TheVariants.{Up as IsUp}
use Rattle.dac_chains.specs.declared.claims.Claim.{Claim as ClaimValue}
use Rattle.dac_chains.specs.declared.claims.How.TheVariants.{Takeover as TakenOver}
use Rattle.dac_wishes.specs.KeyedWrites.{keyed_write}
use Rattle.dac_wishes.specs.Writes.{dots_at}
use Rattle.dac_wishes.specs.laws.Writes.{contains-dots_at}
use Rattle.dac_operations.specs.declared.act.Act.TheVariants.{Down as Downs, Permit as Permits, Start as Starts, Stop as Stops, Drain as Drains}
use Rattle.dac_placement.specs.Placement.{RunsAt, runner_of}
use Rattle.dac_placement.specs.laws.Tests.{runner_is}
use Rattle.dac_wire.specs.Codes.{IsKindIn, kind_of_act}
use Rattle.dac_events.specs.declared.Command.{Command}
use Rattle.dac_events.specs.declared.Command.TheVariants.{Down, Permit, Start, Stop, Drain, Takeover}
use Rattle.dac_commands.specs.Commands.{live_or_none, live_key, live_origin, standing_starts, standing_permits, standing_drains, greatest_counter, next_term, act_of}
use Rattle.dac_commands.specs.Causes.{no_app, unlisted, not_live, too_many, refusal_of_command}
use Rattle.dac_commands.specs.laws.Written.{all_causes, live_there, writes_what_is_said}
use Rattle.dac_commands.specs.laws.Standing.{permits_at-rising, permits_at-has, drains_at-rising, drains_at-has}
use Rattle.dac_commands.specs.laws.Terms.{next_term_is}
use Rattle.dac_model_world.specs.laws.Carried.{none_some}
use Rattle.dac_in_form.proofs.MayIssue.{MayIssue, sound_by, not_first, next_is_dot, apart, claim_is}

-- ---- replaced dots

-- a property of each dot that is found in the list holds of each of its dots
each_found : (P : Dot → Type 0) (over : List Dot) → ((d : Dot) → has_key dot_cmp over d ≡ true → P d) → AllByRecursion P over
each_found P [] found = tt
each_found P (x ∷ over) found = (
  found x (or_left (eq_by_cmp dot_cmp x x) (has_key dot_cmp over x) (ap is_eq (tied_itself dots_total x))),
  each_found P over (λ d h. found d (or_right (eq_by_cmp dot_cmp d x) (has_key dot_cmp over d) h)),
)

-- the number of dots that an operation can replace fits its field
few_fit : (n : ℕ) → too_many n ≡ false → n < 2 ^ 16
few_fit n h = below n MAX_REPLACED (2 ^ 16) (ltb-false MAX_REPLACED n h) (ltb-true MAX_REPLACED (2 ^ 16) refl)
  where
    below : (a b c : ℕ) → a ≤ b → b < c → a < c
    below a b c h k = omega arith

-- known dots in rising order, and not too many
record Replaceable (s : StateValue) (over : List Dot) : Type 0 where
  among : (d : Dot) → has_key dot_cmp over d ≡ true → set.contains s.known d ≡ true
  rising : IsRising dot_cmp over
  few : too_many (length over) ≡ false

module _ (t : Table) (own : Origin) (s : StateValue) (may : MayIssue t own s) where
  over_is : (over : List Dot) → Replaceable s over → AreOver Two (node_count t) over
  over_is over r = record { each = each_found (IsDot Two (node_count t)) over (λ d h. may.known d (r.among d h)); rising = r.rising; count = few_fit (length over) r.few }

  good_over : (over : List Dot) → Replaceable s over → has_bad_over over ≡ false
  good_over over r = λ i. not (r.rising i) || r.few i

  starts_are : (key : Key) → too_many (length (standing_starts s key)) ≡ false → Replaceable s (standing_starts s key)
  starts_are key few = record {
    among = λ d h. may.state.starts (write key d) (sym (has_key-in_order dots_total exact_dots (dots_at key s.starts) d ∙ contains-dots_at key s.starts d) ∙ h);
    rising = in_order-rising dots_total exact_dots (dots_at key s.starts);
    few = few;
  }

  permits_are : (key : Key) → too_many (length (standing_permits s key)) ≡ false → Replaceable s (standing_permits s key)
  permits_are key few = record { among = λ d h. may.state.permits (write key d) (sym (permits_at-has key s.permits d) ∙ h); rising = permits_at-rising key s.permits; few = few }

  drains_are : (at : Origin) → too_many (length (standing_drains s at)) ≡ false → Replaceable s (standing_drains s at)
  drains_are at few = record { among = λ d h. may.state.drains (keyed_write at d) (sym (drains_at-has at s.drains d) ∙ h); rising = drains_at-rising at s.drains; few = few }

  -- ---- names

  live_inc : (node : NodeId) → not_live s node ≡ false → IsIncarnation Two (live_or_none s node)
  live_inc node live = may.lives node (record { inc = live_or_none s node; flag = IsUp }) (live_there t own s node live)

  live_origin_is : (node : NodeId) → no_node t node ≡ false → not_live s node ≡ false → IsOrigin Two (node_count t) (live_origin s node)
  live_origin_is node there live = record { node = leb-false (node_count t) node.0 there; inc = live_inc node live }

  key_is : (app : AppId) (node : NodeId) → no_app t app ≡ false → no_node t node ≡ false → unlisted t app node ≡ false → not_live s node ≡ false → IsKey Two t (live_key s app node)
  key_is app node named there listed live = record { app = leb-false (app_count t) app.0 named; origin = live_origin_is node there live; listed = not-false (is_listed t app node) listed }

  -- the node at which an application runs is in the configuration
  runner_there : (app : AppId) (n : NodeId) → RunsAt t s app n → n.0 < node_count t
  runner_there app n runs = by_claim (map.get s.claims app) refl runs.holder
    where
      by_claim : (c : Option ClaimValue) → map.get s.claims app ≡ c → option_map (λ (c : ClaimValue). c.origin) c ≡ Some (record { node = n; inc = runs.inc }) → n.0 < node_count t
      by_claim None is e = none_some e
      by_claim (Some c) is e = subst (λ (q : Origin). q.node.0 < node_count t) (some_same c.origin (record { node = n; inc = runs.inc }) e) (may.claim.claimers app c is)

  taken_from : (app : AppId) (o : Option NodeId) → runner_of t s app ≡ o → not (is_some o) ≡ false → IsConsistentOrigin (node_count t) TakenOver o
  taken_from app None is e = absurd (true≢false e)
  taken_from app (Some n) is e = (n, refl, runner_there app n ((runner_is t s app n).0 is))

  -- ---- operations

  abbrev at : Dot
  at = dot own (greatest_counter own s.known + 1)

  next_is : (act : Act) → IsNext s.known own at → IsKindIn Two (kind_of_act act) → IsAct Two t own.node act → fault_of at act ≡ None → IsOperation Two t (next_operation s own act)
  next_is act next kind is sound = record { dot = next_is_dot t own s may.claim at next; kind = kind; act = is; sound = sound }

  pub command_is : (c : Command) → refusal_of_command t own s c ≡ None → IsOperation Two t (next_operation s own (act_of t s c))
  command_is (Down node) e =
      let none = none_is (all_causes t own s (Down node)) e in
      let next = (writes_what_is_said t own s (Down node) e).dot in
      let inc = live_or_none s node in
      next_is (Downs node inc) next (leb-true 2 7 refl) (leb-false (node_count t) node.0 none.1.0, live_inc node none.1.1.1.0)
      (sound_by at (Downs node inc) refl refl (not_first t own s may.claim at next) none.1.1.0)
  command_is (Permit app node value) e =
      let none = none_is (all_causes t own s (Permit app node value)) e in
      let next = (writes_what_is_said t own s (Permit app node value) e).dot in
      let key = live_key s app node in
      let over = standing_permits s key in
      let r = permits_are key none.1.1.1.1.1.0 in
      next_is (Permits key value over) next (leb-true 3 7 refl) (key_is app node none.1.0 none.1.1.0 none.1.1.1.0 none.1.1.1.1.0, over_is over r)
      (sound_by at (Permits key value over) (apart t own s may.claim at next over r.among) (good_over over r) (not_first t own s may.claim at next) refl)
  command_is (Start app node) e =
      let none = none_is (all_causes t own s (Start app node)) e in
      let next = (writes_what_is_said t own s (Start app node) e).dot in
      let key = live_key s app node in
      let over = standing_starts s key in
      let r = starts_are key none.1.1.1.1.1.0 in
      next_is (Starts key over) next (leb-true 4 7 refl) (key_is app node none.1.0 none.1.1.0 none.1.1.1.0 none.1.1.1.1.0, over_is over r)
      (sound_by at (Starts key over) (apart t own s may.claim at next over r.among) (good_over over r) (not_first t own s may.claim at next) refl)
  command_is (Stop app node) e =
      let none = none_is (all_causes t own s (Stop app node)) e in
      let next = (writes_what_is_said t own s (Stop app node) e).dot in
      let key = live_key s app node in
      let over = standing_starts s key in
      let r = starts_are key none.1.1.1.1.1.1.0 in
      next_is (Stops key over) next (leb-true 5 7 refl) (key_is app node none.1.0 none.1.1.0 none.1.1.1.0 none.1.1.1.1.0, over_is over r)
      (sound_by at (Stops key over) (apart t own s may.claim at next over r.among) (good_over over r) (not_first t own s may.claim at next) refl)
  command_is (Drain node value) e =
      let none = none_is (all_causes t own s (Drain node value)) e in
      let next = (writes_what_is_said t own s (Drain node value) e).dot in
      let inc = live_or_none s node in
      let over = standing_drains s (live_origin s node) in
      let r = drains_are (live_origin s node) none.1.1.1.0 in
      next_is (Drains node inc value over) next (leb-true 7 7 refl) (live_origin_is node none.1.0 none.1.1.0, over_is over r)
      (sound_by at (Drains node inc value over) (apart t own s may.claim at next over r.among) (good_over over r) (not_first t own s may.claim at next) refl)
  command_is (Takeover app) e =
      let none = none_is (all_causes t own s (Takeover app)) e in
      let next = (writes_what_is_said t own s (Takeover app) e).dot in
      claim_is t own s may.claim at next app (next_term s app) TakenOver (runner_of t s app) (next_term_is s app) (ltb-false MAX_COUNTER (next_term s app) none.1.1.1.1.1.1.1.0)
      (leb-false (app_count t) app.0 none.1.0) (not-false (is_listed t app own.node) none.1.1.0) (taken_from app (runner_of t s app) refl none.1.1.1.1.0)
