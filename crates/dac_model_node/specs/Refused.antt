-- Refusals in words: which causes an event can have, when each holds, and that the refusal is the least of those that
-- hold. (The causes and their order are this project's own.)
use Rattle.std.specs.Prelude.{◌≡◌, ◌⊎◌, ℕ, ◌+◌, ◌<◌, ◌≤◌, true, false, List, [], ◌∷◌, length, Option, None, Some, IfSome}
use Rattle.std.specs.FinSet as set
use Rattle.dac_base.specs.declared.limits.TheConstants.{MAX_INCARNATION, MAX_COUNTER, MAX_REPLACED}
use Rattle.dac_base.specs.declared.NodeId.{NodeId}
use Rattle.dac_origins.specs.declared.dot.Origin.{Origin}
use Rattle.dac_origins.specs.declared.dot.Dot.{Dot}
use Rattle.dac_origins.specs.Dots.{Dots, dot, IsUsedUp}
use Rattle.dac_config.specs.Table.{Table, node_count, app_count, group_of}
use Rattle.dac_chains.specs.Lives.{IsLive}
use Rattle.dac_wishes.specs.WishesValue.{SomeStands}
use Rattle.dac_meaning.specs.StateValue.{StateValue, wishes_of, IsBelow}
use Rattle.dac_meaning.specs.Meaning.{meaning_of}
use Rattle.dac_peers.specs.declared.positions.Position.{Position}
use Rattle.dac_messages.specs.Bodies.{content_of}
use Rattle.dac_decide.specs.Placement.{IsEligible, RunsAt, IsEarlier}
use Rattle.dac_events.specs.declared.Command.{Command}
use Rattle.dac_events.specs.declared.Command.TheVariants.{Down, Permit, Start, Stop, Drain, Takeover}
use Rattle.dac_messages.specs.declared.message.Message.{Message}
use Rattle.dac_messages.specs.declared.event.Event.{Event}
use Rattle.dac_messages.specs.declared.event.Event.TheVariants.{Boot, Crash, Command as Commanded, Tick, Ship, Hear, HearOp}
use Rattle.dac_events.specs.declared.refusal.Refusal.{Refusal}
use Rattle.dac_events.specs.declared.refusal.Refusal.TheVariants.{Off, AlreadyOn, DeclaredDown, UnknownApp, UnknownNode, OnSelf, NotInList, MomentBack, NotLive, NotStarted, NotEligible, NotRunning, AlreadyHolder, LowerPriority, NotForMe, UpToDate, TooManyDots, TermsUsedUp, DotsUsedUp, IncarnationsUsedUp, NoMemory}
use Rattle.dac_events.specs.Refusals.{number_of}
use Rattle.dac_commands.specs.Commands.{live_key, live_origin, standing_starts, standing_permits, standing_drains}
use Rattle.dac_commands.specs.Written.{HasLastTerm}
use Rattle.dac_model_node.specs.NodeValue.{NodeValue, RunningValue}
use Rattle.dac_model_node.specs.EventRefusals.{refusal_of}
use Rattle.dac_model_node.specs.Shipping.{IsPosition}

-- ---- the causes that an event can have, other than failed allocations

abbrev pub causes_of_command : Command → List Refusal
causes_of_command (Down node) = Off ∷ DeclaredDown ∷ UnknownNode ∷ OnSelf ∷ NotLive ∷ DotsUsedUp ∷ []
causes_of_command (Permit app node value) =
    Off ∷ DeclaredDown ∷ UnknownApp ∷ UnknownNode ∷ NotInList ∷ NotLive ∷ TooManyDots ∷ DotsUsedUp ∷ []
causes_of_command (Start app node) =
    Off ∷ DeclaredDown ∷ UnknownApp ∷ UnknownNode ∷ NotInList ∷ NotLive ∷ TooManyDots ∷ DotsUsedUp ∷ []
causes_of_command (Stop app node) =
    Off ∷ DeclaredDown ∷ UnknownApp ∷ UnknownNode ∷ NotInList ∷ NotLive ∷ NotStarted ∷ TooManyDots ∷ DotsUsedUp ∷ []
causes_of_command (Drain node value) = Off ∷ DeclaredDown ∷ UnknownNode ∷ NotLive ∷ TooManyDots ∷ DotsUsedUp ∷ []
causes_of_command (Takeover app) = Off ∷ DeclaredDown ∷ UnknownApp ∷ NotInList ∷ NotEligible ∷ NotRunning ∷
    AlreadyHolder ∷ LowerPriority ∷ TermsUsedUp ∷ DotsUsedUp ∷ []

abbrev pub causes_of_event : Event → List Refusal
causes_of_event (Boot now) = AlreadyOn ∷ IncarnationsUsedUp ∷ []
causes_of_event Crash = Off ∷ []
causes_of_event (Commanded c) = causes_of_command c
causes_of_event (Tick now) = Off ∷ DeclaredDown ∷ MomentBack ∷ DotsUsedUp ∷ []
causes_of_event (Ship to) = Off ∷ UnknownNode ∷ OnSelf ∷ UpToDate ∷ []
causes_of_event (Hear m) = Off ∷ OnSelf ∷ NotForMe ∷ DotsUsedUp ∷ []
causes_of_event (HearOp o) = Off ∷ DotsUsedUp ∷ []

-- ---- parts of an event

-- the moment of a tick
abbrev pub tick_in : Event → Option ℕ
tick_in (Tick now) = Some now
tick_in _ = None

-- the message is for this node, and isn't only for another incarnation
abbrev pub IsFor : Origin → Message → Type 0
IsFor own m = (m.to ≡ own.node) × IfSome m.only (λ inc. inc ≡ own.inc)

-- ---- when a cause holds

-- the option has a value, and P holds of it
abbrev pub Some! : {X : Type 0} → Option X → (X → Type 0) → Type 0
Some! None P = ⊥
Some! (Some x) P = P x

-- the node runs, and P holds of its incarnation and its state
abbrev pub Running : NodeValue → (Origin → StateValue → Type 0) → Type 0
Running v P = Some! v.running (λ (r : RunningValue). P r.origin r.state)

-- after some counter of the origin in the dots, or after 0, fewer than `count` are left up to the last
abbrev pub LeavesFewer : Dots → Origin → ℕ → Type 0
LeavesFewer dots own count = (n : ℕ) × (((n ≡ 0) ⊎ (set.contains dots (dot own n) ≡ true)) × (MAX_COUNTER < n + count))

-- there are no numbers for so many more deltas
abbrev pub LacksNumbers : RunningValue → ℕ → Type 0
LacksNumbers r more = MAX_COUNTER < r.kept.count + more

-- fewer counters are left than this, or fewer numbers of deltas
abbrev pub LacksFor : RunningValue → ℕ → Type 0
LacksFor r count = LeavesFewer r.state.known r.origin count ⊎ LacksNumbers r count

-- Too few counters or numbers of deltas are left. A tick counts as needing one for each application, and at least one.
-- A command needs one. An incoming message or single operation needs a number if it is new.
abbrev pub Lacks : Table → RunningValue → Event → Type 0
Lacks t r (Commanded c) = IsUsedUp r.state.known r.origin ⊎ LacksNumbers r 1
Lacks t r (Tick now) = LacksFor r 1 ⊎ LacksFor r (app_count t)
Lacks t r (Hear m) = (¬ IsBelow (content_of m.body) r.state) × LacksNumbers r 1
Lacks t r (HearOp o) = (¬ IsBelow (meaning_of (o ∷ [])) r.state) × LacksNumbers r 1
Lacks t r _ = ⊥

-- the receiver has acknowledged all deltas, and no reply to it is due
abbrev pub IsUpToDate : RunningValue → NodeId → Type 0
IsUpToDate r to =
    (p : Position) × (IsPosition r to p × ((r.kept.count ≤ p.number) × (set.contains r.peers.owed to ≡ false)))

-- no incarnation of the node is live
abbrev pub IsNotLive : StateValue → NodeId → Type 0
IsNotLive s node = (inc : ℕ) → ¬ IsLive s.lives node inc

-- the command would replace too many dots
abbrev pub AreTooMany : List Dot → Type 0
AreTooMany over = MAX_REPLACED < length over

-- the cause holds for the command at this incarnation with this state
abbrev pub HoldsOfCommand : Table → Origin → StateValue → Command → Refusal → Type 0
HoldsOfCommand t own s (Down node) UnknownNode = node_count t ≤ node.0
HoldsOfCommand t own s (Down node) OnSelf = node ≡ own.node
HoldsOfCommand t own s (Down node) NotLive = IsNotLive s node
HoldsOfCommand t own s (Permit app node value) UnknownApp = app_count t ≤ app.0
HoldsOfCommand t own s (Permit app node value) UnknownNode = node_count t ≤ node.0
HoldsOfCommand t own s (Permit app node value) NotInList = group_of t app node ≡ None
HoldsOfCommand t own s (Permit app node value) NotLive = IsNotLive s node
HoldsOfCommand t own s (Permit app node value) TooManyDots = AreTooMany (standing_permits s (live_key s app node))
HoldsOfCommand t own s (Start app node) UnknownApp = app_count t ≤ app.0
HoldsOfCommand t own s (Start app node) UnknownNode = node_count t ≤ node.0
HoldsOfCommand t own s (Start app node) NotInList = group_of t app node ≡ None
HoldsOfCommand t own s (Start app node) NotLive = IsNotLive s node
HoldsOfCommand t own s (Start app node) TooManyDots = AreTooMany (standing_starts s (live_key s app node))
HoldsOfCommand t own s (Stop app node) UnknownApp = app_count t ≤ app.0
HoldsOfCommand t own s (Stop app node) UnknownNode = node_count t ≤ node.0
HoldsOfCommand t own s (Stop app node) NotInList = group_of t app node ≡ None
HoldsOfCommand t own s (Stop app node) NotLive = IsNotLive s node
HoldsOfCommand t own s (Stop app node) NotStarted = ¬ SomeStands (live_key s app node) (wishes_of s)
HoldsOfCommand t own s (Stop app node) TooManyDots = AreTooMany (standing_starts s (live_key s app node))
HoldsOfCommand t own s (Drain node value) UnknownNode = node_count t ≤ node.0
HoldsOfCommand t own s (Drain node value) NotLive = IsNotLive s node
HoldsOfCommand t own s (Drain node value) TooManyDots = AreTooMany (standing_drains s (live_origin s node))
HoldsOfCommand t own s (Takeover app) UnknownApp = app_count t ≤ app.0
HoldsOfCommand t own s (Takeover app) NotInList = group_of t app own.node ≡ None
HoldsOfCommand t own s (Takeover app) NotEligible = ¬ IsEligible t s app own.node
HoldsOfCommand t own s (Takeover app) NotRunning = (node : NodeId) → ¬ RunsAt t s app node
HoldsOfCommand t own s (Takeover app) AlreadyHolder = RunsAt t s app own.node
HoldsOfCommand t own s (Takeover app) LowerPriority =
    (runner : NodeId) × (RunsAt t s app runner × IsEarlier t app runner own.node)
HoldsOfCommand t own s (Takeover app) TermsUsedUp = HasLastTerm s app
HoldsOfCommand t own s c why = ⊥

-- the cause holds for the event at a running node
abbrev pub HoldsRunning : Table → RunningValue → Event → Refusal → Type 0
HoldsRunning t r (Commanded c) why = HoldsOfCommand t r.origin r.state c why
HoldsRunning t r (Tick now) MomentBack = now < r.moments.last
HoldsRunning t r (Ship to) UnknownNode = node_count t ≤ to.0
HoldsRunning t r (Ship to) OnSelf = to ≡ r.origin.node
HoldsRunning t r (Ship to) UpToDate = IsUpToDate r to
HoldsRunning t r (Hear m) OnSelf = m.from.node ≡ r.origin.node
HoldsRunning t r (Hear m) NotForMe = ¬ IsFor r.origin m
HoldsRunning t r e why = ⊥

-- the cause holds for the event at the node
abbrev pub Holds : Table → NodeValue → Event → Refusal → Type 0
Holds t v e Off = v.running ≡ None
Holds t v e AlreadyOn = Running v (λ own s. Unit {0})
Holds t v e DeclaredDown = Running v (λ own s. ¬ IsLive s.lives own.node own.inc)
Holds t v e DotsUsedUp = Some! v.running (λ (r : RunningValue). Lacks t r e)
Holds t v e IncarnationsUsedUp = MAX_INCARNATION ≤ v.last
Holds t v e NoMemory = ⊥
Holds t v e why = Some! v.running (λ (r : RunningValue). HoldsRunning t r e why)

-- ---- the refusal

-- the list contains the cause
abbrev pub IsOneOf : Refusal → List Refusal → Type 0
IsOneOf why [] = ⊥
IsOneOf why (r ∷ rs) = (why ≡ r) ⊎ IsOneOf why rs

-- no cause of the list holds
abbrev pub NoneHolds : (Refusal → Type 0) → List Refusal → Type 0
NoneHolds Holding rs = (why : Refusal) → IsOneOf why rs → ¬ Holding why

-- the cause is in the list and holds, and none that holds has a smaller number
pub record IsLeastOf (Holding : Refusal → Type 0) (rs : List Refusal) (why : Refusal) : Type 0 where
  pub can : IsOneOf why rs
  pub holds : Holding why
  pub least : (other : Refusal) → IsOneOf other rs → Holding other → number_of why ≤ number_of other

-- no cause to refuse the event holds
abbrev pub IsFree : Table → NodeValue → Event → Type 0
IsFree t v e = NoneHolds (Holds t v e) (causes_of_event e)

-- the event is refused for this cause
abbrev pub IsRefused : Table → NodeValue → Event → Refusal → Type 0
IsRefused t v e why = IsLeastOf (Holds t v e) (causes_of_event e) why

-- the refusal is the least cause, or `NoMemory` if no cause holds
abbrev pub IsAnsweredBy : Table → NodeValue → Event → Refusal → Type 0
IsAnsweredBy t v e why = IsRefused t v e why ⊎ ((why ≡ NoMemory) × IsFree t v e)

-- ---- the laws of the table of causes

-- a refused event is refused for the least cause that holds
abbrev pub RefusesForTheLeast : Type 0
RefusesForTheLeast =
    (t : Table) (v : NodeValue) (e : Event) (why : Refusal) → refusal_of t v e ≡ Some why → IsRefused t v e why

-- if an event is accepted, no cause to refuse it holds
abbrev pub RefusesNoOther : Type 0
RefusesNoOther = (t : Table) (v : NodeValue) (e : Event) → refusal_of t v e ≡ None → IsFree t v e

-- the table never refuses because of memory
abbrev pub NeverRefusesForMemory : Type 0
NeverRefusesForMemory = (t : Table) (v : NodeValue) (e : Event) → ¬ (refusal_of t v e ≡ Some NoMemory)
