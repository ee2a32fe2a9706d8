-- The operation of an accepted command, in words.
use Rattle.std.specs.Prelude.{◌≡◌, ◌↔◌, ℕ, ◌+◌, ◌≤◌, Bool, true, List, Option, None, Some, MatchOption, is_some}
use Rattle.std.specs.FinSet as set
use Rattle.std.specs.FinMap as map
use Rattle.dac_base.specs.declared.limits.TheConstants.{MAX_COUNTER}
use Rattle.dac_base.specs.declared.NodeId.{NodeId}
use Rattle.dac_base.specs.declared.AppId.{AppId}
use Rattle.dac_origins.specs.declared.dot.Origin.{Origin}
use Rattle.dac_origins.specs.declared.dot.Dot.{Dot}
use Rattle.dac_origins.specs.Dots.{dot_cmp, IsNext}
use Rattle.dac_origins.specs.Keys.{has_key}
use Rattle.dac_chains.specs.Lives.{IsLive}
use Rattle.dac_chains.specs.declared.claims.Claim.{Claim}
use Rattle.dac_chains.specs.declared.claims.How.{How}
use Rattle.dac_chains.specs.declared.claims.How.TheVariants.{Takeover as TakenOver}
use Rattle.dac_wishes.specs.declared.key.Key.{Key}
use Rattle.dac_wishes.specs.KeyedWrites.{keyed_write}
use Rattle.dac_wishes.specs.Writes.{write}
use Rattle.dac_wishes.specs.DrainsValue.{origin}
use Rattle.dac_operations.specs.declared.act.Act.{Act}
use Rattle.dac_operations.specs.declared.act.Act.TheVariants.{Down as Downs, Permit as Permits, Start as Starts, Stop as Stops, Drain as Drains, Claim as Claims}
use Rattle.dac_operations.specs.Operations.{Operation}
use Rattle.dac_placement.specs.StateValue.{StateValue}
use Rattle.dac_config.specs.Table.{Table}
use Rattle.dac_placement.specs.Placement.{RunsAt}
use Rattle.dac_events.specs.declared.Command.{Command}
use Rattle.dac_events.specs.declared.Command.TheVariants.{Down, Permit, Start, Stop, Drain, Takeover}
use Rattle.dac_commands.specs.Commands.{next_operation, act_of}
use Rattle.dac_commands.specs.Causes.{refusal_of_command}

-- the key of the application at the live incarnation of the node
pub record IsKeyAt (s : StateValue) (app : AppId) (node : NodeId) (key : Key) : Type 0 where
  pub same_app : key.app ≡ app
  pub same_node : key.node ≡ node
  pub live : IsLive s.lives node key.inc

-- a start wish of the key with this dot stands
abbrev pub StartStands : StateValue → Key → Dot → Type 0
StartStands s key d = set.contains s.starts (write key d) ≡ true

-- a permit of the key with this dot stands
abbrev pub PermitStands : StateValue → Key → Dot → Type 0
PermitStands s key d = is_some (map.get s.permits (write key d)) ≡ true

-- a drain of the origin with this dot stands
abbrev pub DrainStands : StateValue → Origin → Dot → Type 0
DrainStands s at d = is_some (map.get s.drains (keyed_write at d)) ≡ true

-- the list has exactly the dots that stand
abbrev pub AreThose : (Dot → Type 0) → List Dot → Type 0
AreThose Stands over = (d : Dot) → (has_key dot_cmp over d ≡ true) ↔ Stands d

-- the act writes at the application's key at the node's live incarnation, and replaces exactly the dots that stand
-- there
pub record WritesAt (s : StateValue) (app : AppId) (node : NodeId) (Stands : Key → Dot → Type 0)
    (made : Key → List Dot → Act) (act : Act) : Type 0 where
  pub key : Key
  pub over : List Dot
  pub is : act ≡ made key over
  pub at : IsKeyAt s app node key
  pub replaces : AreThose (Stands key) over

-- the act drains the node's live incarnation, or ends its drain, and replaces exactly the drains that stand there
pub record DrainsLive (s : StateValue) (node : NodeId) (value : Bool) (act : Act) : Type 0 where
  pub inc : ℕ
  pub over : List Dot
  pub is : act ≡ Drains node inc value over
  pub live : IsLive s.lives node inc
  pub replaces : AreThose (DrainStands s (origin node inc)) over

-- the next term of the application's claims: one more than the greatest claim's, or 1 without claims
abbrev pub IsNextTerm : StateValue → AppId → ℕ → Type 0
IsNextTerm s app term = MatchOption (map.get s.claims app) (term ≡ 1) (λ (claim : Claim). term ≡ claim.term + 1)

-- the application's greatest claim has the last term, or a later one
abbrev pub HasLastTerm : StateValue → AppId → Type 0
HasLastTerm s app = (claim : Claim) × ((map.get s.claims app ≡ Some claim) × (MAX_COUNTER ≤ claim.term))

-- the act claims the application under its next term
pub record IsNextClaim (s : StateValue) (app : AppId) (how : How) (from : Option NodeId) (act : Act) : Type 0 where
  pub term : ℕ
  pub next : IsNextTerm s app term
  pub at_most : term ≤ MAX_COUNTER
  pub is : act ≡ Claims app term how from

-- the act claims the application from the node at which it runs
pub record TakesOver (t : Table) (s : StateValue) (app : AppId) (act : Act) : Type 0 where
  pub runner : NodeId
  pub runs : RunsAt t s app runner
  pub claims : IsNextClaim s app TakenOver (Some runner) act

-- The act is that of the command. A Down names the node's live incarnation, and a takeover claims the application from
-- the node where it runs. The others write at the application's key at the node's live incarnation, and replace exactly
-- what stands there of their kind.
abbrev pub SaysCommand : Table → StateValue → Command → Act → Type 0
SaysCommand t s (Down node) act = (inc : ℕ) × ((act ≡ Downs node inc) × IsLive s.lives node inc)
SaysCommand t s (Permit app node value) act =
    WritesAt s app node (PermitStands s) (λ key over. Permits key value over) act
SaysCommand t s (Start app node) act = WritesAt s app node (StartStands s) Starts act
SaysCommand t s (Stop app node) act = WritesAt s app node (StartStands s) Stops act
SaysCommand t s (Drain node value) act = DrainsLive s node value act
SaysCommand t s (Takeover app) act = TakesOver t s app act

-- the operation has the incarnation's next dot and the command's act
pub record IsWritten (t : Table) (own : Origin) (s : StateValue) (c : Command) (o : Operation) : Type 0 where
  pub dot : IsNext s.known own o.dot
  pub says : SaysCommand t s c o.act

-- an accepted command issues such an operation
abbrev pub IssuesTheCommand : Type 0
IssuesTheCommand = (t : Table) (own : Origin) (s : StateValue) (c : Command) → refusal_of_command t own s c ≡ None
    → IsWritten t own s c (next_operation s own (act_of t s c))
