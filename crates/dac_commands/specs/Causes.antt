-- Why a running node refuses a command.
use Rattle.std.specs.Prelude.{ℕ, Bool, false, not, cond, nat_eq, nat_le, nat_lt, List, [], ◌∷◌, ◌++◌, length, Option, Some, None, is_some}
use Rattle.std.specs.Option.{option_map_or}
use Rattle.dac_base.specs.declared.limits.TheConstants.{MAX_COUNTER, MAX_REPLACED}
use Rattle.dac_base.specs.declared.NodeId.{NodeId}
use Rattle.dac_base.specs.declared.AppId.{AppId}
use Rattle.dac_origins.specs.declared.dot.Origin.{Origin}
use Rattle.dac_wishes.specs.declared.key.Key.{Key}
use Rattle.dac_wishes.specs.WishesValue.{is_wished}
use Rattle.dac_placement.specs.StateValue.{StateValue, wishes_of}
use Rattle.dac_config.specs.Table.{Table, node_count, app_count, group_of}
use Rattle.dac_placement.specs.Placement.{is_up, is_eligible, is_earlier, runs_at, runner_of}
use Rattle.dac_events.specs.declared.Command.{Command}
use Rattle.dac_events.specs.declared.Command.TheVariants.{Down, Permit, Start, Stop, Drain, Takeover}
use Rattle.dac_events.specs.declared.refusal.Refusal.{Refusal}
use Rattle.dac_events.specs.declared.refusal.Refusal.TheVariants.{DeclaredDown, UnknownApp, UnknownNode, OnSelf, NotInList, NotLive, NotStarted, NotEligible, NotRunning, AlreadyHolder, LowerPriority, TooManyDots, TermsUsedUp, DotsUsedUp}
use Rattle.dac_commands.specs.Commands.{live, live_key, live_origin, standing_starts, standing_permits, standing_drains, greatest_counter, next_term}

-- the refusal of the first cause that holds
abbrev pub first : List (Bool × Refusal) → Option Refusal
first [] = None
first (c ∷ cs) = cond c.0 (Some c.1) (first cs)

abbrev pub no_node : Table → NodeId → Bool
no_node t node = nat_le (node_count t) node.0

abbrev pub no_app : Table → AppId → Bool
no_app t app = nat_le (app_count t) app.0

-- the application's list lacks the node
abbrev pub unlisted : Table → AppId → NodeId → Bool
unlisted t app node = not (is_some (group_of t app node))

abbrev pub not_live : StateValue → NodeId → Bool
not_live s node = not (is_some (live s node))

abbrev pub not_wished : StateValue → Key → Bool
not_wished s key = not (is_wished key (wishes_of s))

-- an operation can't replace this many dots
abbrev pub too_many : ℕ → Bool
too_many count = nat_lt MAX_REPLACED count

-- the origin has no greater counter
abbrev pub used_up : StateValue → Origin → Bool
used_up s own = nat_le MAX_COUNTER (greatest_counter own s.known)

-- there is no greater term for a claim of the application
abbrev pub terms_used_up : StateValue → AppId → Bool
terms_used_up s app = nat_lt MAX_COUNTER (next_term s app)

-- the application runs at a node whose group is earlier than the node's
abbrev pub runs_earlier : Table → StateValue → AppId → NodeId → Bool
runs_earlier t s app node = option_map_or (λ runner. is_earlier t app runner node) (runner_of t s app) false

-- the incarnation isn't the live one of its own node
abbrev pub declared_down : Origin → StateValue → Bool
declared_down own s = not (is_up s own)

-- causes to refuse a command about an application and a node
abbrev pub causes_of_target : Table → StateValue → AppId → NodeId → List (Bool × Refusal)
causes_of_target t s app node = (no_app t app, UnknownApp) ∷ (no_node t node, UnknownNode) ∷
    (unlisted t app node, NotInList) ∷ (not_live s node, NotLive) ∷ []

-- causes to refuse an operation that replaces this many dots
abbrev pub causes_to_issue : Origin → StateValue → ℕ → List (Bool × Refusal)
causes_to_issue own s count = (too_many count, TooManyDots) ∷ (used_up s own, DotsUsedUp) ∷ []

-- causes to refuse a permit
abbrev pub causes_to_permit : Table → Origin → StateValue → AppId → NodeId → List (Bool × Refusal)
causes_to_permit t own s app node =
    causes_of_target t s app node ++ causes_to_issue own s (length (standing_permits s (live_key s app node)))

-- causes to refuse a drain
abbrev pub causes_to_drain : Table → Origin → StateValue → NodeId → List (Bool × Refusal)
causes_to_drain t own s node = (no_node t node, UnknownNode) ∷ (not_live s node, NotLive) ∷ causes_to_issue own s
    (length (standing_drains s (live_origin s node)))

-- causes to refuse a claim
abbrev pub causes_to_claim : Origin → StateValue → AppId → List (Bool × Refusal)
causes_to_claim own s app = (terms_used_up s app, TermsUsedUp) ∷ (used_up s own, DotsUsedUp) ∷ []

-- causes to refuse a takeover
abbrev pub causes_to_take : Table → Origin → StateValue → AppId → List (Bool × Refusal)
causes_to_take t own s app =
    (no_app t app, UnknownApp) ∷ (unlisted t app own.node, NotInList) ∷ (not (is_eligible t s app own.node), NotEligible) ∷ (not (is_some (runner_of t s app)), NotRunning)
    ∷ (runs_at t s app own.node, AlreadyHolder) ∷ (runs_earlier t s app own.node, LowerPriority) ∷ causes_to_claim own s app

-- causes to refuse a command, other than that its incarnation was declared down
abbrev pub causes_of : Table → Origin → StateValue → Command → List (Bool × Refusal)
causes_of t own s (Down node) = (no_node t node, UnknownNode) ∷ (nat_eq node.0 own.node.0, OnSelf) ∷
    (not_live s node, NotLive) ∷ (used_up s own, DotsUsedUp) ∷ []
causes_of t own s (Permit app node value) = causes_to_permit t own s app node
causes_of t own s (Start app node) =
    causes_of_target t s app node ++ causes_to_issue own s (length (standing_starts s (live_key s app node)))
causes_of t own s (Stop app node) =
    let key = live_key s app node in
    causes_of_target t s app node ++ (not_wished s key, NotStarted) ∷ causes_to_issue own s (length (standing_starts s key))
causes_of t own s (Drain node value) = causes_to_drain t own s node
causes_of t own s (Takeover app) = causes_to_take t own s app

-- the refusal of a command at a running node, if any
abbrev pub refusal_of_command : Table → Origin → StateValue → Command → Option Refusal
refusal_of_command t own s c = first ((declared_down own s, DeclaredDown) ∷ causes_of t own s c)
