-- Refusals in words, event by event: which one an event gets, and which comes first. The table of causes in `Refused`
-- has the shape of the program's tests. This page uses neither, so that a mistake in both contradicts it.
use Rattle.std.specs.Prelude.{◌≡◌, ◌⊎◌, ℕ, ◌<◌, ◌≤◌, Option, None, Some, IsSomeAnd, unwrap_or}
use Rattle.dac_base.specs.declared.limits.TheConstants.{MAX_INCARNATION, MAX_COUNTER}
use Rattle.dac_base.specs.declared.NodeId.{NodeId}
use Rattle.dac_base.specs.declared.AppId.{AppId}
use Rattle.dac_origins.specs.declared.dot.Origin.{Origin}
use Rattle.dac_chains.specs.Lives.{IsLive}
use Rattle.dac_operations.specs.Operations.{Operation}
use Rattle.dac_config.specs.Table.{Table, node_count, app_count, group_of}
use Rattle.dac_events.specs.declared.Command.TheVariants.{Down, Permit, Start, Stop, Drain, Takeover}
use Rattle.dac_messages.specs.declared.message.Message.{Message}
use Rattle.dac_messages.specs.declared.event.Event.{Event}
use Rattle.dac_messages.specs.declared.event.Event.TheVariants.{Boot, Crash, Command as Commanded, Tick, Ship, Hear, HearOp}
use Rattle.dac_events.specs.declared.refusal.Refusal.{Refusal}
use Rattle.dac_events.specs.declared.refusal.Refusal.TheVariants.{Off, AlreadyOn, DeclaredDown, UnknownApp, UnknownNode, OnSelf, NotInList, MomentBack, NotLive, NotForMe}
use Rattle.dac_model_node.specs.NodeValue.{NodeValue, RunningValue}
use Rattle.dac_model_node.specs.EventRefusals.{refusal_of}

-- ---- events

-- the event is a boot
abbrev pub IsBoot : Event → Type 0
IsBoot (Boot now) = Unit {0}
IsBoot _ = ⊥

-- the event is a command or a tick, for which a running node can issue operations
abbrev pub CanIssue : Event → Type 0
CanIssue (Commanded c) = Unit {0}
CanIssue (Tick now) = Unit {0}
CanIssue _ = ⊥

-- the application that a command names, if any
abbrev pub app_in : Event → Option AppId
app_in (Commanded (Permit app node value)) = Some app
app_in (Commanded (Start app node)) = Some app
app_in (Commanded (Stop app node)) = Some app
app_in (Commanded (Takeover app)) = Some app
app_in _ = None

-- the node that a command or a ship names, if any
abbrev pub node_in : Event → Option NodeId
node_in (Commanded (Down node)) = Some node
node_in (Commanded (Permit app node value)) = Some node
node_in (Commanded (Start app node)) = Some node
node_in (Commanded (Stop app node)) = Some node
node_in (Commanded (Drain node value)) = Some node
node_in (Ship to) = Some to
node_in _ = None

-- ---- what is wrong with an event

-- the application that it names isn't configured
abbrev pub LacksApp : Table → Event → Type 0
LacksApp t e = IsSomeAnd (app_in e) (λ app. app_count t ≤ app.0)

-- the node that it names isn't configured
abbrev pub LacksNode : Table → Event → Type 0
LacksNode t e = IsSomeAnd (node_in e) (λ node. node_count t ≤ node.0)

-- the node that it names, or the own one for a takeover, isn't in the application's list
abbrev pub IsUnlisted : Table → NodeId → Event → Type 0
IsUnlisted t own e = IsSomeAnd (app_in e) (λ app. group_of t app (unwrap_or (node_in e) own) ≡ None)

-- no incarnation of the node that it names is live
abbrev pub IsGone : RunningValue → Event → Type 0
IsGone r e = IsSomeAnd (node_in e) (λ node. (inc : ℕ) → ¬ IsLive r.state.lives node inc)

-- it is between the node and itself: a message from the node, of whatever incarnation and for whatever receiver; a ship
-- to the node; or a command that declares it down
abbrev pub IsWithSelf : NodeId → Event → Type 0
IsWithSelf own (Hear m) = m.from.node ≡ own
IsWithSelf own (Ship to) = to ≡ own
IsWithSelf own (Commanded (Down node)) = node ≡ own
IsWithSelf own _ = ⊥

-- the message names this node as its receiver, and no other incarnation of it
abbrev pub IsMeantFor : Origin → Message → Type 0
IsMeantFor own m = (m.to ≡ own.node) × ((m.only ≡ None) ⊎ (m.only ≡ Some own.inc))

-- ---- results

-- the node refuses the event for this cause
abbrev pub Refuses : Table → NodeValue → Event → Refusal → Type 0
Refuses t v e why = refusal_of t v e ≡ Some why

-- the node accepts the event
abbrev pub Accepts : Table → NodeValue → Event → Type 0
Accepts t v e = refusal_of t v e ≡ None

-- as far as the node knows, its incarnation is live: nobody declared it down
abbrev pub IsStillUp : RunningValue → Type 0
IsStillUp r = IsLive r.state.lives r.origin.node r.origin.inc

-- P holds of each running node, under each configuration
abbrev pub OfRunning : (Table → NodeValue → RunningValue → Type 0) → Type 0
OfRunning P = (t : Table) (v : NodeValue) (r : RunningValue) → v.running ≡ Some r → P t v r

-- ---- off, and declared down

-- A node that is off refuses everything but a boot, and a running node each boot, whatever else is wrong. A running node
-- that was declared down refuses each command and each tick for that, and nothing else.
pub record RefusesWhenOff (t : Table) (v : NodeValue) : Type 0 where
  pub off : v.running ≡ None → (e : Event) → ¬ IsBoot e → Refuses t v e Off
  pub only_off : (e : Event) → Refuses t v e Off → v.running ≡ None
  pub boot : v.running ≡ None → (e : Event) → IsBoot e → v.last < MAX_INCARNATION → Accepts t v e
  pub on : (r : RunningValue) → v.running ≡ Some r → (e : Event) → IsBoot e → Refuses t v e AlreadyOn
  pub crash : (r : RunningValue) → v.running ≡ Some r → Accepts t v Crash
  pub down : (r : RunningValue) → v.running ≡ Some r → (e : Event) → CanIssue e → ¬ IsStillUp r
      → Refuses t v e DeclaredDown
  pub only_down : (r : RunningValue) → v.running ≡ Some r → (e : Event) → Refuses t v e DeclaredDown
      → CanIssue e × (¬ IsStillUp r)

-- this holds of every node
abbrev pub OffComesFirst : Type 0
OffComesFirst = (t : Table) (v : NodeValue) → RefusesWhenOff t v

-- ---- what an event names

-- Of a command a node refuses first an application that isn't configured, then such a node, then a node outside the
-- application's list, then one that isn't live. It refuses ships to nodes that aren't configured, even if it was declared
-- down itself.
pub record RefusesStrangers (t : Table) (v : NodeValue) (r : RunningValue) : Type 0 where
  pub app : (e : Event) → IsStillUp r → LacksApp t e → Refuses t v e UnknownApp
  pub node : (e : Event) → (CanIssue e → IsStillUp r) → ¬ LacksApp t e → LacksNode t e → Refuses t v e UnknownNode
  pub listed : (e : Event) → IsStillUp r → ¬ LacksApp t e → ¬ LacksNode t e → IsUnlisted t r.origin.node e
      → Refuses t v e NotInList
  pub live : (e : Event) → CanIssue e → IsStillUp r → ¬ LacksApp t e → ¬ LacksNode t e
      → ¬ IsUnlisted t r.origin.node e → IsGone r e → Refuses t v e NotLive
  pub only_app : (e : Event) → Refuses t v e UnknownApp → LacksApp t e
  pub only_node : (e : Event) → Refuses t v e UnknownNode → LacksNode t e
  pub only_listed : (e : Event) → Refuses t v e NotInList → IsUnlisted t r.origin.node e
  pub only_live : (e : Event) → Refuses t v e NotLive → CanIssue e × IsGone r e

-- this holds of every running node
abbrev pub StrangersAreNamed : Type 0
StrangersAreNamed = OfRunning RefusesStrangers

-- ---- messages

-- A node refuses its own messages as `OnSelf`, even those of an earlier life or for another receiver. It also refuses
-- ships to itself, and commands to declare itself down.
pub record RefusesItself (t : Table) (v : NodeValue) (r : RunningValue) : Type 0 where
  pub always : (e : Event) → (CanIssue e → IsStillUp r) → ¬ LacksNode t e → IsWithSelf r.origin.node e
      → Refuses t v e OnSelf
  pub only : (e : Event) → Refuses t v e OnSelf → IsWithSelf r.origin.node e

-- this holds of every running node
abbrev pub OwnIsOnSelf : Type 0
OwnIsOnSelf = OfRunning RefusesItself

-- A node refuses a message of another node that names another receiver, or only another incarnation. While numbers of
-- deltas are left, it accepts all others, and each single operation.
pub record RefusesMisdirected (t : Table) (v : NodeValue) (r : RunningValue) : Type 0 where
  pub other : (m : Message) → ¬ (m.from.node ≡ r.origin.node) → ¬ IsMeantFor r.origin m
      → Refuses t v (Hear m) NotForMe
  pub own : (m : Message) → ¬ (m.from.node ≡ r.origin.node) → IsMeantFor r.origin m → r.kept.count < MAX_COUNTER
      → Accepts t v (Hear m)
  pub handed : (o : Operation) → r.kept.count < MAX_COUNTER → Accepts t v (HearOp o)

-- this holds of every running node
abbrev pub OthersAreNotForMe : Type 0
OthersAreNotForMe = OfRunning RefusesMisdirected

-- ---- ticks

-- A node refuses a tick if its moment is before that of the last one, but not if the moments are equal.
pub record RefusesEarlierMoments (t : Table) (v : NodeValue) (r : RunningValue) : Type 0 where
  pub back : (now : ℕ) → IsStillUp r → now < r.moments.last → Refuses t v (Tick now) MomentBack
  pub only : (now : ℕ) → r.moments.last ≤ now → ¬ Refuses t v (Tick now) MomentBack

-- this holds of every running node
abbrev pub TimeRuns : Type 0
TimeRuns = OfRunning RefusesEarlierMoments
