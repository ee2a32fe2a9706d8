-- Which events a node refuses, and why. Each list of causes is in the order of the refusals' numbers.
use Rattle.std.specs.Prelude.{ℕ, ◌+◌, Bool, true, not, ◌&&◌, ◌||◌, nat_eq, nat_le, nat_lt, max, List, [], ◌∷◌, Option, Some, None}
use Rattle.std.specs.Option.{option_map_or}
use Rattle.dac_base.specs.declared.limits.TheConstants.{MAX_INCARNATION, MAX_COUNTER}
use Rattle.dac_base.specs.declared.NodeId.{NodeId}
use Rattle.dac_origins.specs.declared.dot.Origin.{Origin}
use Rattle.dac_meaning.specs.StateValue.{StateValue}
use Rattle.dac_config.specs.Table.{Table, app_count}
use Rattle.dac_operations.specs.Operations.{Operation}
use Rattle.dac_meaning.specs.Meaning.{meaning_of}
use Rattle.dac_meaning.specs.Below.{is_below}
use Rattle.dac_peers.specs.Peers.{is_up_to_date}
use Rattle.dac_events.specs.declared.Command.{Command}
use Rattle.dac_messages.specs.Bodies.{content_of}
use Rattle.dac_messages.specs.declared.message.Message.{Message}
use Rattle.dac_messages.specs.declared.event.Event.{Event}
use Rattle.dac_messages.specs.declared.event.Event.TheVariants.{Boot, Crash, Command as Commanded, Tick, Ship, Hear, HearOp}
use Rattle.dac_events.specs.declared.refusal.Refusal.{Refusal}
use Rattle.dac_events.specs.declared.refusal.Refusal.TheVariants.{Off, AlreadyOn, DeclaredDown, UnknownNode, OnSelf, MomentBack, NotForMe, UpToDate, DotsUsedUp, IncarnationsUsedUp}
use Rattle.dac_commands.specs.Commands.{greatest_counter}
use Rattle.dac_commands.specs.Causes.{first, no_node, declared_down, refusal_of_command}
use Rattle.dac_model_node.specs.NodeValue.{NodeValue, RunningValue}

-- how many counters a tick counts as needing, whatever it claims: one for each application, and at least one
abbrev pub needed : Table → ℕ
needed t = max 1 (app_count t)

-- fewer counters of the origin are left than a tick needs
abbrev pub too_few_left : Table → StateValue → Origin → Bool
too_few_left t s own = nat_lt MAX_COUNTER (greatest_counter own s.known + needed t)

-- the number of the last of so many more deltas would be too great
abbrev pub too_many_deltas : RunningValue → ℕ → Bool
too_many_deltas r more = nat_lt MAX_COUNTER (r.kept.count + more)

-- causes to refuse a tick
abbrev pub causes_to_tick : Table → RunningValue → ℕ → List (Bool × Refusal)
causes_to_tick t r now = (declared_down r.origin r.state, DeclaredDown) ∷ (nat_lt now r.moments.last, MomentBack) ∷
    (too_few_left t r.state r.origin || too_many_deltas r (needed t), DotsUsedUp) ∷ []

-- the refusal of a tick, if any
abbrev pub refusal_to_tick : Table → RunningValue → ℕ → Option Refusal
refusal_to_tick t r now = first (causes_to_tick t r now)

-- the refusal of a ship, if any
abbrev pub refusal_to_ship : Table → RunningValue → NodeId → Option Refusal
refusal_to_ship t r to = first ((no_node t to, UnknownNode) ∷ (nat_eq to.0 r.origin.node.0, OnSelf) ∷
    (is_up_to_date r.peers r.state r.kept.base r.kept.count to, UpToDate) ∷ [])

-- the message is for this node, and isn't only for another incarnation
abbrev pub is_for : Origin → Message → Bool
is_for own m = nat_eq m.to.0 own.node.0 && option_map_or (λ inc. nat_eq inc own.inc) m.only true

-- the state would be one delta more than there are numbers for
abbrev pub overflows : RunningValue → StateValue → Bool
overflows r body = not (is_below body r.state) && too_many_deltas r 1

-- causes to refuse an incoming message
abbrev pub causes_to_hear : RunningValue → Message → List (Bool × Refusal)
causes_to_hear r m = (nat_eq m.from.node.0 r.origin.node.0, OnSelf) ∷ (not (is_for r.origin m), NotForMe) ∷
    (overflows r (content_of m.body), DotsUsedUp) ∷ []

-- the refusal of an incoming message, if any
abbrev pub refusal_to_hear : RunningValue → Message → Option Refusal
refusal_to_hear r m = first (causes_to_hear r m)

-- the refusal of an incoming single operation, if any
abbrev pub refusal_to_hear_op : RunningValue → Operation → Option Refusal
refusal_to_hear_op r o = first ((overflows r (meaning_of (o ∷ [])), DotsUsedUp) ∷ [])

-- the first of two refusals, if any
abbrev pub otherwise : Option Refusal → Option Refusal → Option Refusal
otherwise None other = other
otherwise (Some why) other = Some why

-- the refusal of a command at a running node, if any
abbrev pub refusal_to_obey : Table → RunningValue → Command → Option Refusal
refusal_to_obey t r c =
    otherwise (refusal_of_command t r.origin r.state c) (first ((too_many_deltas r 1, DotsUsedUp) ∷ []))

-- the refusal of an event at a running node, if any
abbrev pub refusal_on : Table → RunningValue → Event → Option Refusal
refusal_on t r (Boot now) = Some AlreadyOn
refusal_on t r Crash = None
refusal_on t r (Commanded c) = refusal_to_obey t r c
refusal_on t r (Tick now) = refusal_to_tick t r now
refusal_on t r (Ship to) = refusal_to_ship t r to
refusal_on t r (Hear m) = refusal_to_hear r m
refusal_on t r (HearOp o) = refusal_to_hear_op r o

-- the refusal of an event at a node that is off, if any
abbrev pub refusal_off : ℕ → Event → Option Refusal
refusal_off last (Boot now) = first ((nat_le MAX_INCARNATION last, IncarnationsUsedUp) ∷ [])
refusal_off last Crash = Some Off
refusal_off last (Commanded c) = Some Off
refusal_off last (Tick now) = Some Off
refusal_off last (Ship to) = Some Off
refusal_off last (Hear m) = Some Off
refusal_off last (HearOp o) = Some Off

-- the refusal of an event at a node, given its last incarnation and its running part
abbrev pub refusal_by : Table → ℕ → Option RunningValue → Event → Option Refusal
refusal_by t last None e = refusal_off last e
refusal_by t last (Some r) e = refusal_on t r e

-- the refusal of an event at a node, if any
abbrev pub refusal_of : Table → NodeValue → Event → Option Refusal
refusal_of t v e = refusal_by t v.last v.running e
