-- The operations and replies of an accepted event.
use Rattle.std.specs.Prelude.{◌≡◌, ◌⊎◌, ◌↔◌, ◌+◌, ◌-◌, ℕ, true, false, List, [], ◌∷◌}
use Rattle.dac_base.specs.declared.NodeId.{NodeId}
use Rattle.dac_origins.specs.Dots.{dot}
use Rattle.dac_operations.specs.declared.act.Act.TheVariants.{Up}
use Rattle.dac_meaning.specs.StateValue.{StateValue, IsBelow}
use Rattle.dac_meaning.specs.Meaning.{meaning_of}
use Rattle.dac_config.specs.Table.{Table}
use Rattle.dac_decide.specs.Placement.{apps_of}
use Rattle.dac_decide.specs.declared.start_gate.Opening.{Opening}
use Rattle.dac_decide.specs.declared.start_gate.Opening.TheVariants.{Shut, Opened, GiveUp}
use Rattle.dac_decide.specs.StartGate.{IsOpening}
use Rattle.dac_decide.specs.FailoverWait.{Note, waits_of}
use Rattle.dac_ticks.specs.InWords.{IsSweep}
use Rattle.dac_messages.specs.Bodies.{content_of}
use Rattle.dac_messages.specs.declared.message.Message.{Message}
use Rattle.dac_messages.specs.declared.event.Event.{Event}
use Rattle.dac_messages.specs.declared.event.Event.TheVariants.{Boot, Crash, Command as Commanded, Tick, Ship, Hear, HearOp}
use Rattle.dac_messages.specs.declared.reply.Reply.{Reply}
use Rattle.dac_messages.specs.declared.reply.Reply.TheVariants.{Booted, Crashed, Issued, Ticked, Held, GaveUp, Shipped, Heard}
use Rattle.dac_commands.specs.Written.{IsWritten}
use Rattle.dac_model_node.specs.NodeValue.{NodeValue, RunningValue}
use Rattle.dac_model_node.specs.Refused.{Running, Some! }

-- the start gate was shut before the tick, and this is its state now
abbrev pub IsAsked : Table → RunningValue → ℕ → Opening → Type 0
IsAsked t r now opening = (r.is_open ≡ false) × IsOpening t r.state (now - r.moments.booted) opening

-- The reply to an accepted tick of a running node. If the start gate is open, or opens now, the node makes its pass, by
-- the notes of its ticks with this one's. If the gate is still shut, the node claims nothing. If it gives up, the node
-- goes down.
abbrev pub TicksSo : Table → RunningValue → ℕ → Reply → Type 0
TicksSo t r now (Ticked ops passed) =
    ((r.is_open ≡ true) ⊎ IsAsked t r now Opened)
    × ((notes : List Note) → r.waits ≡ waits_of t notes → IsSweep t r.origin (record { state = r.state; moment = now } ∷ notes) now r.state (apps_of t) ops passed)
TicksSo t r now Held = IsAsked t r now Shut
TicksSo t r now GaveUp = IsAsked t r now GiveUp
TicksSo t r now _ = ⊥

-- an incoming state is heard, and is new exactly when it isn't below the node's state
abbrev pub HearsSo : StateValue → StateValue → Reply → Type 0
HearsSo s body (Heard fresh) = (fresh ≡ true) ↔ (¬ IsBelow body s)
HearsSo s body _ = ⊥

-- The reply to a boot of node me is the first operation of the next incarnation, an Up. The reply to a command is its
-- operation, and that to a tick its claims. No other event issues anything. The reply to a crash says so, that to a
-- ship is a message, and that to an incoming message or operation is whether it was new.
abbrev pub Writes : Table → NodeId → NodeValue → Event → Reply → Type 0
Writes t me v (Boot now) (Booted o) = (o.dot ≡ dot (record { node = me; inc = v.last + 1 }) 1) × (o.act ≡ Up)
Writes t me v (Boot now) _ = ⊥
Writes t me v (Commanded c) (Issued o) = Running v (λ own s. IsWritten t own s c o)
Writes t me v (Commanded c) _ = ⊥
Writes t me v (Tick now) reply = Some! v.running (λ (r : RunningValue). TicksSo t r now reply)
Writes t me v Crash reply = reply ≡ Crashed
Writes t me v (Ship to) reply = (m : Message) × (reply ≡ Shipped m)
Writes t me v (Hear m) reply = Running v (λ own s. HearsSo s (content_of m.body) reply)
Writes t me v (HearOp o) reply = Running v (λ own s. HearsSo s (meaning_of (o ∷ [])) reply)
