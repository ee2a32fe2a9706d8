-- The operations that a running node issues have no fault: the dot is new, and the replaced dots are a short rising
-- list.
use Rattle.std.proofs.Common.{◌≡◌, ℕ, ◌<◌, ◌≤◌, ◌+◌, Bool, true, false, not, ◌||◌, List, length, Option, Some, None, refl, sym, subst, ◌∙◌, arith}
use Rattle.std.specs.Prelude.{◌==◌, if◌then◌else◌, MatchOption, is_some, nat_eq}
use Rattle.std.specs.Option.{is_none}
use Rattle.std.specs.FinSet as set
use Rattle.std.proofs.lemmas.Map.Views.{exact_unsigned_eq}
use Rattle.std.proofs.lemmas.Bool.{false_from_ne_true, leb-false, not-false}
use Rattle.dac_base.specs.declared.AppId.{AppId}
use Rattle.dac_base.specs.declared.NodeId.{NodeId}
use Rattle.dac_origins.specs.declared.dot.Origin.{Origin}
use Rattle.dac_origins.specs.declared.dot.Dot.{Dot}
use Rattle.dac_origins.specs.Dots.{Dots, dot, dot_cmp, IsNext, IsUsedUp}
use Rattle.dac_origins.specs.laws.Dots.{dots_total, exact_dots}
use Rattle.dac_origins.specs.Keys.{IsRising, has_key}
use Rattle.dac_origins.specs.laws.InOrder.{in_order-rising, has_key-in_order}
use Rattle.dac_chains.specs.declared.claims.How.{How}
use Rattle.dac_chains.specs.declared.claims.How.TheVariants.{Takeover as TakenOver}
use Rattle.dac_wishes.specs.declared.key.Key.{Key}
use Rattle.dac_wishes.specs.KeyedWrites.{keyed_write}
use Rattle.dac_wishes.specs.Writes.{write, dots_at}
use Rattle.dac_wishes.specs.laws.Writes.{contains-dots_at}
use Rattle.dac_operations.specs.declared.act.Act.{Act}
use Rattle.dac_operations.specs.declared.act.Act.TheVariants.{Down as Downs, Permit as Permits, Start as Starts, Stop as Stops, Drain as Drains, Claim as Claims}
use Rattle.dac_operations.specs.declared.op.OpFault.TheVariants.{OwnDot, BadOver, BadCounter, OnSelf as AboutItself}
use Rattle.dac_operations.specs.Operations.{fault_of, replaces_itself, has_bad_over, has_bad_counter, is_on_self, over_list}
use Rattle.dac_placement.specs.StateValue.{StateValue, IsState}
use Rattle.dac_config.specs.Table.{Table, app_count}
use Rattle.dac_placement.specs.Placement.{runner_of}
use Rattle.dac_events.specs.declared.Command.{Command}
use Rattle.dac_events.specs.declared.Command.TheVariants.{Down, Permit, Start, Stop, Drain, Takeover}
use Rattle.dac_commands.specs.Commands.{KnowsOwnBoot, standing_starts, standing_permits, standing_drains, greatest_counter, next_term, claim_act, next_operation, live_or_none, live_key, live_origin, act_of}
use Rattle.dac_commands.specs.Causes.{refusal_of_command, too_many, terms_used_up, used_up}
use Rattle.dac_commands.specs.laws.Written.{none_is, all_causes}
use Rattle.dac_commands.specs.laws.Counters.{counter-greatest, next_none, next-is}
use Rattle.dac_commands.specs.laws.Standing.{permits_at-rising, permits_at-has, drains_at-rising, drains_at-has}

-- ---- causes that don't hold
-- an operation can replace these dots, and a counter is left
pub record MayIssue (own : Origin) (s : StateValue) (over : List Dot) : Type 0 where
  pub few : too_many (length over) ≡ false
  pub left : used_up s own ≡ false

-- the node of an accepted Down is another one, and a counter is left
pub record MayDeclare (own : Origin) (s : StateValue) (node : NodeId) : Type 0 where
  pub other : nat_eq node.0 own.node.0 ≡ false
  pub left : used_up s own ≡ false

may_declare : (t : Table) (own : Origin) (s : StateValue) (node : NodeId) → refusal_of_command t own s (Down node) ≡ None → MayDeclare own s node
may_declare t own s node e =
    let none = none_is (all_causes t own s (Down node)) e in
    record { other = none.1.1.0; left = none.1.1.1.1.0 }

may_permit : (t : Table) (own : Origin) (s : StateValue) (app : AppId) (node : NodeId) (value : Bool) → refusal_of_command t own s (Permit app node value) ≡ None → MayIssue own s (standing_permits s (live_key s app node))
may_permit t own s app node value e =
    let none = none_is (all_causes t own s (Permit app node value)) e in
    record { few = none.1.1.1.1.1.0; left = none.1.1.1.1.1.1.0 }

may_start : (t : Table) (own : Origin) (s : StateValue) (app : AppId) (node : NodeId) → refusal_of_command t own s (Start app node) ≡ None → MayIssue own s (standing_starts s (live_key s app node))
may_start t own s app node e =
    let none = none_is (all_causes t own s (Start app node)) e in
    record { few = none.1.1.1.1.1.0; left = none.1.1.1.1.1.1.0 }

may_stop : (t : Table) (own : Origin) (s : StateValue) (app : AppId) (node : NodeId) → refusal_of_command t own s (Stop app node) ≡ None → MayIssue own s (standing_starts s (live_key s app node))
may_stop t own s app node e =
    let none = none_is (all_causes t own s (Stop app node)) e in
    record { few = none.1.1.1.1.1.1.0; left = none.1.1.1.1.1.1.1.0 }

may_drain : (t : Table) (own : Origin) (s : StateValue) (node : NodeId) (value : Bool) → refusal_of_command t own s (Drain node value) ≡ None → MayIssue own s (standing_drains s (live_origin s node))
may_drain t own s node value e =
    let none = none_is (all_causes t own s (Drain node value)) e in
    record { few = none.1.1.1.0; left = none.1.1.1.1.0 }

-- the application of an accepted takeover is in the configuration, and a term and a counter are left
pub record MayTake (t : Table) (own : Origin) (s : StateValue) (app : AppId) : Type 0 where
  pub named : app.0 < app_count t
  pub terms : terms_used_up s app ≡ false
  pub left : used_up s own ≡ false

pub may_take : (t : Table) (own : Origin) (s : StateValue) (app : AppId) → refusal_of_command t own s (Takeover app) ≡ None → MayTake t own s app
may_take t own s app e =
    let none = none_is (all_causes t own s (Takeover app)) e in
    record { named = leb-false (app_count t) app.0 none.1.0; terms = none.1.1.1.1.1.1.1.0; left = none.1.1.1.1.1.1.1.1.0 }

-- ---- the code's tests of these causes
pub used_up-is : (s : StateValue) (own : Origin) (known : Dots) (next : Option Dot) → known ≡ s.known → MatchOption next (IsUsedUp known own) (IsNext known own) → used_up s own ≡ is_none next
used_up-is s own known next is h = sym (next_none s.known own next (subst (λ k. MatchOption next (IsUsedUp k own) (IsNext k own)) is h))

pub next_there : (s : StateValue) (own : Origin) (known : Dots) (next : Option Dot) → known ≡ s.known → MatchOption next (IsUsedUp known own) (IsNext known own) → used_up s own ≡ false → is_some next ≡ true
next_there s own known next is h left = not-false (is_some next) (sym (used_up-is s own known next is h) ∙ left)

pub next_dot : (s : StateValue) (own : Origin) (known : Dots) (next : Option Dot) (d : Dot) → known ≡ s.known → MatchOption next (IsUsedUp known own) (IsNext known own) → next ≡ Some d → d ≡ dot own (greatest_counter own s.known + 1)
next_dot s own known next d is h some = next-is s.known own d (subst (λ k. IsNext k own d) is (subst (λ o. MatchOption o (IsUsedUp known own) (IsNext known own)) some h))

-- ---- operations
fault_none : (d : Dot) (a : Act) → replaces_itself d a ≡ false → has_bad_over (over_list a) ≡ false → has_bad_counter d a ≡ false → is_on_self d a ≡ false → fault_of d a ≡ None
fault_none d a p q r s = λ i. if p i then Some OwnDot else if q i then Some BadOver else if r i then Some BadCounter else if s i then Some AboutItself else None

-- the dot of the next operation
abbrev next_of : Origin → StateValue → Dot
next_of own s = dot own (greatest_counter own s.known + 1)

-- the next dot isn't known
next_unknown : (own : Origin) (s : StateValue) → set.contains s.known (next_of own s) ≡ true → ⊥
next_unknown own s h = above (greatest_counter own s.known) (counter-greatest s.known (next_of own s) h)
  where
    above : (g : ℕ) → g + 1 ≤ g → ⊥
    above g h = omega arith

-- the next dot isn't that of a boot
next_later : (own : Origin) (s : StateValue) → KnowsOwnBoot own s → (greatest_counter own s.known + 1 == 1) ≡ false
next_later own s knows = false_from_ne_true _ (λ t. first_only (greatest_counter own s.known) (counter-greatest s.known (dot own 1) knows) (exact_unsigned_eq (greatest_counter own s.known + 1) 1 t))
  where
    first_only : (g : ℕ) → 1 ≤ g → g + 1 ≡ 1 → ⊥
    first_only g h e = omega arith

-- a short rising list is a sound list of replaced dots
good_over : (own : Origin) (s : StateValue) (over : List Dot) → IsRising dot_cmp over → MayIssue own s over → has_bad_over over ≡ false
good_over own s over rising may = λ i. not (rising i) || may.few i

-- the next dot isn't among those that stand at a key
starts_apart : (own : Origin) (s : StateValue) (key : Key) → IsState s → has_key dot_cmp (standing_starts s key) (next_of own s) ≡ false
starts_apart own s key is = false_from_ne_true _ (λ t.
    let there : set.contains (dots_at key s.starts) (next_of own s) ≡ true = sym (has_key-in_order dots_total exact_dots (dots_at key s.starts) (next_of own s)) ∙ t in
    next_unknown own s (is.starts (write key (next_of own s)) (sym (contains-dots_at key s.starts (next_of own s)) ∙ there)))

permits_apart : (own : Origin) (s : StateValue) (key : Key) → IsState s → has_key dot_cmp (standing_permits s key) (next_of own s) ≡ false
permits_apart own s key is = false_from_ne_true _ (λ t. next_unknown own s (is.permits (write key (next_of own s)) (sym (permits_at-has key s.permits (next_of own s)) ∙ t)))

drains_apart : (own : Origin) (s : StateValue) (at : Origin) → IsState s → has_key dot_cmp (standing_drains s at) (next_of own s) ≡ false
drains_apart own s at is = false_from_ne_true _ (λ t. next_unknown own s (is.drains (keyed_write at (next_of own s)) (sym (drains_at-has at s.drains (next_of own s)) ∙ t)))

starts_rising : (s : StateValue) (key : Key) → IsRising dot_cmp (standing_starts s key)
starts_rising s key = in_order-rising dots_total exact_dots (dots_at key s.starts)

-- a claim replaces nothing
pub claims_soundly : (own : Origin) (s : StateValue) (app : AppId) (how : How) (from : Option NodeId) → KnowsOwnBoot own s → fault_of (next_of own s) (claim_act s app how from) ≡ None
claims_soundly own s app how from knows = fault_none (next_of own s) (Claims app (next_term s app) how from) refl refl (next_later own s knows) refl

-- the act of an accepted command has no fault, and a counter is left for it
pub record Issues (own : Origin) (s : StateValue) (a : Act) : Type 0 where
  pub left : used_up s own ≡ false
  pub sound : fault_of (next_operation s own a).dot a ≡ None

pub issues : (t : Table) (own : Origin) (s : StateValue) (c : Command) → IsState s → KnowsOwnBoot own s → refusal_of_command t own s c ≡ None → Issues own s (act_of t s c)
issues t own s (Down node) is knows e =
    let may = may_declare t own s node e in
    record { left = may.left; sound = fault_none (next_of own s) (Downs node (live_or_none s node)) refl refl (next_later own s knows) may.other }
issues t own s (Permit app node value) is knows e =
    let key = live_key s app node in
    let may = may_permit t own s app node value e in
    record { left = may.left; sound = fault_none (next_of own s) (Permits key value (standing_permits s key)) (permits_apart own s key is) (good_over own s _ (permits_at-rising key s.permits) may) (next_later own s knows) refl }
issues t own s (Start app node) is knows e =
    let key = live_key s app node in
    let may = may_start t own s app node e in
    record { left = may.left; sound = fault_none (next_of own s) (Starts key (standing_starts s key)) (starts_apart own s key is) (good_over own s _ (starts_rising s key) may) (next_later own s knows) refl }
issues t own s (Stop app node) is knows e =
    let key = live_key s app node in
    let may = may_stop t own s app node e in
    record { left = may.left; sound = fault_none (next_of own s) (Stops key (standing_starts s key)) (starts_apart own s key is) (good_over own s _ (starts_rising s key) may) (next_later own s knows) refl }
issues t own s (Drain node value) is knows e =
    let at = live_origin s node in
    let may = may_drain t own s node value e in
    record { left = may.left; sound = fault_none (next_of own s) (Drains node (live_or_none s node) value (standing_drains s at)) (drains_apart own s at is) (good_over own s _ (drains_at-rising at s.drains) may) (next_later own s knows) refl }
issues t own s (Takeover app) is knows e =
    record { left = (may_take t own s app e).left; sound = claims_soundly own s app TakenOver (runner_of t s app) knows }
