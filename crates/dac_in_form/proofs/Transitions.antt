-- The transition of an accepted event: its operations, its message and its peer table are in form.
use Rattle.std.proofs.Common.{◌≡◌, ℕ, ◌<◌, ◌≤◌, nat_eq, List, [], ◌∷◌, length, None, refl, arith, leb-false}
use Rattle.dac_in_form.proofs.Common.{AllByRecursion, MAX_COUNTER, NodeId, Table, node_count, app_count, Note, waits_of, UnknownNode, UpToDate, Message, Event, Boot, Crash, Tick, Ship, Hear, HearOp, no_node, none_is, ModelRunning, joined, running_shown, refusal_on, Transition, note_of, transition_on, shipped_by, AreInForm}
use Rattle.dac_placement.specs.Placement.{apps_of}
use Rattle.dac_decide.specs.declared.start_gate.Opening.{Opening}
use Rattle.dac_decide.specs.declared.start_gate.Opening.TheVariants.{Shut, Opened, GiveUp}
use Rattle.dac_events.specs.declared.refusal.Refusal.TheVariants.{OnSelf}
use Rattle.dac_messages.specs.declared.event.Event.TheVariants.{Command as Commanded}
use Rattle.dac_ticks.specs.Ticks.{sweep_of}
use Rattle.dac_ticks.specs.laws.Sweeping.{apps_below}
use Rattle.dac_ticks.specs.laws.Words.{sweep_in_words}
use Rattle.dac_peers.specs.Peers.{is_up_to_date}
use Rattle.dac_model_node.specs.Effect.{issued_by}
use Rattle.dac_model_node.specs.Transitions.{opening_at, ticks_by}
use Rattle.dac_model_node.specs.laws.Counters.{leaves_room}
use Rattle.dac_model_node.specs.laws.Numbers.{obeyed}
use Rattle.dac_model_node.specs.laws.Writing.{no_on}
use Rattle.dac_in_form.proofs.MayIssue.{MayIssue}
use Rattle.dac_in_form.proofs.Commands.{command_is}
use Rattle.dac_in_form.proofs.Claims.{one_more, sweep_is}
use Rattle.dac_in_form.proofs.Heads.{IsHead, AreGot, got_by_is, head_is}

-- the operations, message and peer table of a transition are in form
pub record IsTransitionInForm (t : Table) (transition : Transition) : Type 0 where
  pub issued : AreInForm t (issued_by transition.reply)
  pub shipped : AllByRecursion (IsHead t) (shipped_by transition.reply)
  pub got : AreGot t transition.peers

pub none_issued : (t : Table) → AreInForm t []
none_issued t = λ o i. absurd i

module _ (t : Table) (r : ModelRunning) (may : MayIssue t r.origin (joined r.log)) (count : length r.log ≤ MAX_COUNTER) (got : AreGot t r.peers) where
  tick_is : (now : ℕ) (notes : List Note) → refusal_on t (running_shown t r) (Tick now) ≡ None → (opening : Opening) → IsTransitionInForm t (ticks_by opening t (running_shown t r) (waits_of t notes) now)
  tick_is now notes none Shut = record { issued = none_issued t; shipped = tt; got = got }
  tick_is now notes none GiveUp = record { issued = none_issued t; shipped = tt; got = got }
  tick_is now notes none Opened =
      let sweep = sweep_of t r.origin (waits_of t notes) now (joined r.log) in
      let below = apps_below 0 (app_count t) (app_count t) (omega arith) in
      record {
        issued = sweep_is t r.origin notes now (apps_of t) below (joined r.log) may.claim sweep.ops sweep.passed (sweep_in_words t r.origin notes now (joined r.log) (leaves_room t (running_shown t r) now none));
        shipped = tt;
        got = got;
      }

  -- an accepted ship is to a node of the configuration
  ship_there : (to : NodeId) → refusal_on t (running_shown t r) (Ship to) ≡ None → to.0 < node_count t
  ship_there to none = leb-false (node_count t) to.0 (none_is ((no_node t to, UnknownNode) ∷ (nat_eq to.0 r.origin.node.0, OnSelf) ∷ (is_up_to_date r.peers (joined r.log) r.base (length r.log) to, UpToDate) ∷ []) none).0

  -- The transition is in form, if an incoming message is, except for its content.
  pub transition_is : (e : Event) → refusal_on t (running_shown t r) e ≡ None → ((m : Message) → e ≡ Hear m → IsHead t m) → IsTransitionInForm t (transition_on t r e)
  transition_is (Boot now) none comes = no_on none
  transition_is Crash none comes = record { issued = none_issued t; shipped = tt; got = got }
  transition_is (Commanded c) none comes = record {
    issued = one_more t _ [] (command_is t r.origin (joined r.log) may c (obeyed t (running_shown t r) c none).0) (none_issued t);
    shipped = tt;
    got = got;
  }
  transition_is (Tick now) none comes = tick_is now (note_of (joined r.log) (Tick now) ∷ r.notes) none (opening_at t (running_shown t r) now)
  transition_is (Ship to) none comes = record {
    issued = none_issued t;
    shipped = (head_is t r may count got to (ship_there to none), tt);
    got = got;
  }
  transition_is (Hear m) none comes =
      let head = comes m refl in
      record { issued = none_issued t; shipped = tt; got = got_by_is t r.peers got m.from m.up_to head.from head.up_to m.body }
  transition_is (HearOp o) none comes = record { issued = none_issued t; shipped = tt; got = got }
