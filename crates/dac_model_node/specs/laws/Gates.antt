-- An open start gate stays open until its node goes off.
use Rattle.std.proofs.Common.{◌≡◌, ℕ, ◌-◌, true, cond, List, ◌∷◌, Option, Some, None, refl, sym, ap, subst}
use Rattle.dac_model_node.specs.laws.Common.{NodeId, Table, Note, waits_of, opening_of, Opening, Shut, Opened, GiveUp, Noted, Event, Boot, Crash, Tick, Ship, Hear, HearOp, Refusal, RunningValue, ModelNode, ModelRunning, joined, running_shown, shown, refusal_of, opening_at, ticks_by, note_of, goes_on, model_step, step_by}
use Rattle.dac_messages.specs.declared.event.Event.TheVariants.{Command as Commanded}
use Rattle.dac_model_node.specs.Gates.{SaysOpen, SaysShut, SaysOff, Answers, RunsOpen, TicksOpen, OpenStays, OpenIsOpen}

opens : (t : Table) (r : RunningValue) (now : ℕ) → r.is_open ≡ true → opening_at t r now ≡ Opened
opens t r now e = ap (λ b. cond b Opened (opening_of t r.state (now - r.moments.booted))) e

by_tick : (t : Table) (r : ModelRunning) (rv : RunningValue) (note : Note) (noted : List (Option Noted)) (now : ℕ) (o : Opening) → o ≡ Opened → RunsOpen (goes_on r note (ticks_by o t rv noted now))
by_tick t r rv note noted now Shut e = cc
by_tick t r rv note noted now GiveUp e = cc
by_tick t r rv note noted now Opened e = record { run = _; on = refl; opened = refl }

not_by_tick : (t : Table) (rv : RunningValue) (noted : List (Option Noted)) (now : ℕ) (o : Opening) → o ≡ Opened → ¬ (SaysShut (ticks_by o t rv noted now).reply)
not_by_tick t rv noted now Shut e = cc
not_by_tick t rv noted now GiveUp e = cc
not_by_tick t rv noted now Opened e = λ shut. shut

module _ (t : Table) (me : NodeId) (last : ℕ) where
  abbrev node_of : Option ModelRunning → ModelNode
  node_of running = record { last = last; running = running }

  opened_by : (x : Option Refusal) (running : Option ModelRunning) (e : Event) → Answers SaysOpen (step_by x t me (node_of running) e).answer → RunsOpen (step_by x t me (node_of running) e).node.running
  opened_by (Some why) running e says = absurd says
  opened_by None None e says = absurd says
  opened_by None (Some r) (Boot now) says = absurd says
  opened_by None (Some r) Crash says = absurd says
  opened_by None (Some r) (Commanded c) says = absurd says
  opened_by None (Some r) (Ship to) says = absurd says
  opened_by None (Some r) (Hear m) says = absurd says
  opened_by None (Some r) (HearOp o) says = absurd says
  opened_by None (Some r) (Tick now) says = by (opening_at t (running_shown t r) now) says
    where
      by : (o : Opening) → SaysOpen (ticks_by o t (running_shown t r) (waits_of t (note_of (joined r.log) (Tick now) ∷ r.notes)) now).reply
          → RunsOpen (goes_on r (note_of (joined r.log) (Tick now)) (ticks_by o t (running_shown t r) (waits_of t (note_of (joined r.log) (Tick now) ∷ r.notes)) now))
      by Shut says = absurd says
      by GiveUp says = absurd says
      by Opened says = record { run = _; on = refl; opened = refl }

  goes_by : (x : Option Refusal) (r : ModelRunning) (e : Event) → r.is_open ≡ true → ¬ (Answers SaysOff (step_by x t me (node_of (Some r)) e).answer) → RunsOpen (step_by x t me (node_of (Some r)) e).node.running
  goes_by (Some why) r e is stays = record { run = r; on = refl; opened = is }
  goes_by None r (Boot now) is stays = record { run = _; on = refl; opened = is }
  goes_by None r Crash is stays = absurd (stays tt)
  goes_by None r (Commanded c) is stays = record { run = _; on = refl; opened = is }
  goes_by None r (Tick now) is stays = by_tick t r (running_shown t r) (note_of (joined r.log) (Tick now)) (waits_of t (note_of (joined r.log) (Tick now) ∷ r.notes)) now (opening_at t (running_shown t r) now) (opens t (running_shown t r) now is)
  goes_by None r (Ship to) is stays = record { run = _; on = refl; opened = is }
  goes_by None r _ is stays = record { run = _; on = refl; opened = is }

  found_by : (x : Option Refusal) (r : ModelRunning) (e : Event) → r.is_open ≡ true → ¬ (Answers SaysShut (step_by x t me (node_of (Some r)) e).answer)
  found_by (Some why) r e is = λ shut. shut
  found_by None r (Boot now) is = λ shut. shut
  found_by None r Crash is = λ shut. shut
  found_by None r (Commanded c) is = λ shut. shut
  found_by None r (Tick now) is = not_by_tick t (running_shown t r) (waits_of t (note_of (joined r.log) (Tick now) ∷ r.notes)) now (opening_at t (running_shown t r) now) (opens t (running_shown t r) now is)
  found_by None r (Ship to) is = λ shut. shut
  found_by None r _ is = λ shut. shut

-- ---- any node

-- a node that makes a pass over its applications has an open start gate then
pub ticks_open : TicksOpen
ticks_open t me d e says = opened_by t me d.last (refusal_of t (shown t d) e) d.running e says

-- a node with an open start gate still has one, unless it goes off
pub open_stays : OpenStays
open_stays t me d e is stays =
    let at : ModelNode = record { last = d.last; running = Some is.run } in
    let same : d ≡ at = λ i. record { last = d.last; running = is.on i } in
    subst (λ (n : ModelNode). RunsOpen (model_step t me n e).node.running) (sym same)
    (goes_by t me d.last (refusal_of t (shown t at) e) is.run e is.opened (subst (λ (n : ModelNode). ¬ (Answers SaysOff (model_step t me n e).answer)) same stays))

-- a node with an open start gate never replies that it is shut
pub open_is_open : OpenIsOpen
open_is_open t me d e is =
    let at : ModelNode = record { last = d.last; running = Some is.run } in
    let same : d ≡ at = λ i. record { last = d.last; running = is.on i } in
    subst (λ (n : ModelNode). ¬ (Answers SaysShut (model_step t me n e).answer)) (sym same) (found_by t me d.last (refusal_of t (shown t at) e) is.run e is.opened)
