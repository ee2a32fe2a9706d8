-- The parts of a state that commands use, and the operation that a command issues.
use Rattle.std.specs.Prelude.{◌≡◌, ℕ, ◌+◌, true, cond, List, [], ◌∷◌, map as list_map, max, Option, unwrap_or}
use Rattle.std.specs.Option.{option_map_or}
use Rattle.std.specs.FinSet as set
use Rattle.std.specs.FinMap as map
use Rattle.std.specs.Ordering.{eq_by_cmp}
use Rattle.dac_base.specs.declared.NodeId.{NodeId}
use Rattle.dac_base.specs.declared.AppId.{AppId}
use Rattle.dac_origins.specs.declared.dot.Origin.{Origin}
use Rattle.dac_origins.specs.declared.dot.Dot.{Dot}
use Rattle.dac_origins.specs.Dots.{Dots, dot, origin_cmp}
use Rattle.dac_origins.specs.InOrder.{in_order}
use Rattle.dac_lattice.specs.declared.flags.Flag.{Flag}
use Rattle.dac_chains.specs.Lives.{live_at}
use Rattle.dac_chains.specs.declared.claims.Claim.{Claim}
use Rattle.dac_chains.specs.declared.claims.How.{How}
use Rattle.dac_chains.specs.declared.claims.How.TheVariants.{Takeover as TakenOver}
use Rattle.dac_wishes.specs.declared.key.Key.{Key}
use Rattle.dac_wishes.specs.Writes.{dots_at}
use Rattle.dac_wishes.specs.PermissionsValue.{permits_at}
use Rattle.dac_wishes.specs.DrainsValue.{origin, drains_at}
use Rattle.dac_operations.specs.declared.act.Act.{Act}
use Rattle.dac_operations.specs.declared.act.Act.TheVariants.{Down as Downs, Permit as Permits, Start as Starts, Stop as Stops, Drain as Drains, Claim as Claims}
use Rattle.dac_operations.specs.Operations.{Operation, operation}
use Rattle.dac_placement.specs.StateValue.{StateValue}
use Rattle.dac_config.specs.Table.{Table}
use Rattle.dac_placement.specs.Placement.{runner_of}
use Rattle.dac_events.specs.declared.Command.{Command}
use Rattle.dac_events.specs.declared.Command.TheVariants.{Down, Permit, Start, Stop, Drain, Takeover}

-- ---- parts of a state
-- the state knows the dot of the incarnation's own boot
abbrev pub KnowsOwnBoot : Origin → StateValue → Type 0
KnowsOwnBoot origin s = set.contains s.known (dot origin 1) ≡ true

-- the live incarnation of a node
abbrev pub live : StateValue → NodeId → Option ℕ
live s node = live_at s.lives node

-- the live incarnation of a node, or 0 if none is live
abbrev pub live_or_none : StateValue → NodeId → ℕ
live_or_none s node = unwrap_or (live s node) 0

-- an application at the live incarnation of a node
abbrev pub live_key : StateValue → AppId → NodeId → Key
live_key s app node = record { app = app; node = node; inc = live_or_none s node }

-- the dots of the start wishes that stand at a key, in rising order
abbrev pub standing_starts : StateValue → Key → List Dot
standing_starts s key = in_order (dots_at key s.starts)

-- the dots of the permits that stand at a key, in rising order
abbrev pub standing_permits : StateValue → Key → List Dot
standing_permits s key = list_map (λ (p : Dot × Flag). p.0) (permits_at key s.permits)

-- the live incarnation of a node as an origin
abbrev pub live_origin : StateValue → NodeId → Origin
live_origin s node = origin node (live_or_none s node)

-- the dots of the drains that stand at an origin, in rising order
abbrev pub standing_drains : StateValue → Origin → List Dot
standing_drains s at = list_map (λ (p : Dot × Flag). p.0) (drains_at at s.drains)

-- the greatest counter of the origin among these dots, 0 if there are none
abbrev pub greatest_among : Origin → List Dot → ℕ
greatest_among o [] = 0
greatest_among o (d ∷ ds) = max (cond (eq_by_cmp origin_cmp d.origin o) d.n 0) (greatest_among o ds)

abbrev pub greatest_counter : Origin → Dots → ℕ
greatest_counter o dots = greatest_among o (set.items dots)

-- the term of the application's next claim: one more than the greatest claim's, or 1 without claims
abbrev pub next_term : StateValue → AppId → ℕ
next_term s app = option_map_or (λ (c : Claim). c.term) (map.get s.claims app) 0 + 1

-- ---- the operation that a command issues
-- the act that claims an application under its next term
abbrev pub claim_act : StateValue → AppId → How → Option NodeId → Act
claim_act s app how from = Claims app (next_term s app) how from

-- the next operation of an origin
abbrev pub next_operation : StateValue → Origin → Act → Operation
next_operation s own act = operation (dot own (greatest_counter own s.known + 1)) act

-- The act of a command. A Down names the live incarnation, and a takeover claims from the node where the application
-- runs. The others replace exactly what stands of their kind at the key, or for a drain at the live incarnation.
abbrev pub act_of : Table → StateValue → Command → Act
act_of t s (Down node) = Downs node (live_or_none s node)
act_of t s (Permit app node value) = let key = live_key s app node in Permits key value (standing_permits s key)
act_of t s (Start app node) = let key = live_key s app node in Starts key (standing_starts s key)
act_of t s (Stop app node) = let key = live_key s app node in Stops key (standing_starts s key)
act_of t s (Drain node value) = Drains node (live_or_none s node) value (standing_drains s (live_origin s node))
act_of t s (Takeover app) = claim_act s app TakenOver (runner_of t s app)
