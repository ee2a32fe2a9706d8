-- The effect of an accepted event on a node's value.
use Rattle.std.specs.Prelude.{◌≡◌, ℕ, ◌+◌, List, Option, Some, None, refl}
use Rattle.std.specs.Coded.{Coded, code_by, coded×, coded_ℕ}
use Rattle.dac_base.specs.declared.NodeId.{NodeId}
use Rattle.dac_config.specs.Table.{Table}
use Rattle.dac_decide.specs.declared.waits.Noted.{Noted}
use Rattle.dac_messages.specs.declared.event.Event.{Event}
use Rattle.dac_messages.specs.declared.reply.Reply.{Reply}
use Rattle.dac_messages.specs.declared.reply.Reply.TheVariants.{Booted}
use Rattle.dac_model_node.specs.NodeValue.{NodeValue, RunningValue}
use Rattle.dac_model_node.specs.Transitions.{transition_of}
use Rattle.dac_model_node.specs.Step.{up}
use Rattle.dac_model_node.specs.Accepted.{AcceptedAs, IsNoting, booted, running_by}
use Rattle.dac_node.specs.declared.change.After.{After}
use Rattle.dac_node.specs.After.{running_after, adds_of, IsAt, FitsIn}

-- the number of the last incarnation, the running value, and the reply, after an event
pub record ChangeValue : Type 0 where
  pub last : ℕ
  pub after : After
  pub reply : Reply

abbrev pub coded_change : Coded After → Coded Reply → Coded ChangeValue
coded_change after reply =
    code_by (ℕ × (After × Reply)) (coded× coded_ℕ (coded× after reply))
    (λ c. (c.last, (c.after, c.reply)))
    (λ p. record { last = p.0; after = p.1.0; reply = p.1.1 })
    (λ _. refl)

-- a node after a change
abbrev pub changed : NodeValue → ChangeValue → NodeValue
changed v change = record { last = change.last; running = running_after change.after v.running }

-- if the node runs on, numbers are left for its new deltas
pub record Fits (v : NodeValue) (change : ChangeValue) : Type 0 where
  pub numbers : FitsIn v.running change.after

-- the effect of a boot as this node at this moment, after the incarnation with this number
pub record BootsBy (t : Table) (me : NodeId) (number : ℕ) (now : ℕ) (change : ChangeValue) : Type 0 where
  pub last : change.last ≡ number + 1
  pub after : running_after change.after None ≡ Some (booted t (record { node = me; inc = number + 1 }) now)
  pub reply : change.reply ≡ Booted (up (record { node = me; inc = number + 1 }))

-- the effect of an accepted event at a running node
pub record Effect (t : Table) (number : ℕ) (r : RunningValue) (e : Event) (change : ChangeValue) : Type 0 where
  pub noted : List (Option Noted)
  pub noting : IsNoting t r noted e
  pub last : change.last ≡ number
  pub running : running_after change.after (Some r) ≡ running_by r noted (transition_of t r noted e)
  pub adds : adds_of change.after ≡ (transition_of t r noted e).adds
  pub fits : IsAt r change.after
  pub reply : change.reply ≡ (transition_of t r noted e).reply

-- the event is accepted, and this is its effect
abbrev pub Prepared : Table → NodeId → NodeValue → Event → ChangeValue → Type 0
Prepared t me v e change = AcceptedAs t me v e (changed v change) change.reply
