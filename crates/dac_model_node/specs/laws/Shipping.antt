-- An accepted ship replies with the message that the model node's log determines.
use Rattle.std.proofs.Common.{◌≡◌, ◌≤◌, ℕ, ◌+◌, ◌-◌, Bool, true, false, cond, drop, length, Option, Some, None, Ok, refl, sym, ap, subst, ◌∙◌, arith, drop-drop}
use Rattle.dac_model_node.specs.laws.Common.{fold, nat_le, leb-true, NodeId, Table, bottom, join, Position, begins, Event, Boot, Crash, Tick, Ship, Hear, HearOp, Reply, Shipped, Refusal, NodeValue, RunningValue, ModelRunning, joined, running_shown, message_of, AcceptedAs, model_step, step_by, IsPosition}
use Rattle.std.specs.Option.{option_map}
use Rattle.std.specs.FinMap as map
use Rattle.std.proofs.lemmas.Bool.{leb-false}
use Rattle.dac_messages.specs.declared.message.Body.TheVariants.{Nothing, Interval}
use Rattle.dac_messages.specs.declared.event.Event.TheVariants.{Command as Commanded}
use Rattle.dac_model_node.specs.EventRefusals.{refusal_to_ship}
use Rattle.dac_model_node.specs.Transitions.{body_from}
use Rattle.dac_model_node.specs.Shipping.{IsBody, IsAckShipped, IsShipped, ShipsBy, ShipsSo, ShipsInWords}
use Rattle.dac_model_node.specs.laws.Positions.{begins_is}
use Rattle.dac_model_node.specs.laws.Steps.{steps}

module _ (t : Table) (r : ModelRunning) (to : NodeId) where
  abbrev here : RunningValue
  here = running_shown t r

  abbrev from_position : Option Position
  from_position = begins here.peers here.state here.kept.base to

  -- the delta log after a position has the same join as the model's log after it
  from_there : (p : Position) → r.base ≤ p.number → fold join bottom (drop (p.number - r.base) (drop r.base r.log)) ≡ joined (drop p.number r.log)
  from_there p h =
      let whole : r.base + (p.number - r.base) ≡ p.number = omega arith in
      ap joined (drop-drop (p.number - r.base) r.base r.log ∙ ap (λ n. drop n r.log) whole)

  at_position : (p : Position) → IsPosition here to p → (b : Bool) → nat_le (length r.log) p.number ≡ b → IsBody t r to (Some p.inc) (cond b Nothing (Interval (fold join bottom (drop (p.number - r.base) (drop r.base r.log)))))
  at_position p is true all = (p, (is, (refl, leb-true (length r.log) p.number all)))
  at_position p is false more = let less = leb-false (length r.log) p.number more in (p, (is, (refl, (omega arith, from_there p is.kept))))

  body_is : (from : Option Position) → from_position ≡ from → IsBody t r to (option_map (λ (p : Position). p.inc) from) (body_from here from)
  body_is None none = (refl, (refl, λ p is. no p ((sym none) ∙ (begins_is here to p).1 is)))
    where
      no : (p : Position) → None ≡ Some p → ⊥
      no p e = cc
  body_is (Some p) is = at_position p ((begins_is here to p).0 is) (nat_le (length r.log) p.number) refl

  ack_is : (got : Option Position) → map.get r.peers.got to ≡ got → IsAckShipped r to (option_map (λ (g : Position). (record { node = to; inc = g.inc }, g.number)) got)
  ack_is None none = none
  ack_is (Some g) is = (refl, is)

  pub message_is : IsShipped t r to (message_of here to)
  message_is = record { from = refl; to = refl; up_to = refl; body = body_is from_position refl; ack = ack_is (map.get r.peers.got to) refl }

-- by the refusal of the ship, if any
by_refusal : (t : Table) (me : NodeId) (last : ℕ) (r : ModelRunning) (to : NodeId) (x : Option Refusal) (reply : Reply) → (step_by x t me (record { last = last; running = Some r }) (Ship to)).answer ≡ Ok reply → ShipsBy t (Some r) (Ship to) reply
by_refusal t me last r to (Some why) reply is = cc
by_refusal t me last r to None reply is = let same : Shipped (message_of (running_shown t r) to) ≡ reply = cc in subst (ShipsBy t (Some r) (Ship to)) same (message_is t r to)

by_run : (t : Table) (me : NodeId) (last : ℕ) (running : Option ModelRunning) (e : Event) (reply : Reply) → (model_step t me (record { last = last; running = running }) e).answer ≡ Ok reply → ShipsBy t running e reply
by_run t me last (Some r) (Ship to) reply is = by_refusal t me last r to (refusal_to_ship t (running_shown t r) to) reply is
by_run t me last None (Ship to) reply is = cc
by_run t me last (Some r) (Boot now) reply is = tt
by_run t me last (Some r) Crash reply is = tt
by_run t me last (Some r) (Commanded c) reply is = tt
by_run t me last (Some r) (Tick now) reply is = tt
by_run t me last (Some r) (Hear m) reply is = tt
by_run t me last (Some r) (HearOp o) reply is = tt
by_run t me last None (Boot now) reply is = tt
by_run t me last None _ reply is = tt

pub ships_in_words : ShipsInWords
ships_in_words t me d e reply is = by_run t me d.last d.running e reply is

-- `ShipsSo` holds of each accepted value
pub ships_so : (t : Table) (me : NodeId) (old : NodeValue) (e : Event) (new : NodeValue) (reply : Reply) → AcceptedAs t me old e new reply → ShipsSo t old e reply
ships_so t me old e new reply p d same = ships_in_words t me d e reply ((steps t me old e new reply p).by d same).1
