-- Ships send the sender's whole set, and hearing unites the receiver's set with it.
use Rattle.std.proofs.Common.{◌≡◌, ℕ, true, false, cond, inl, inr, List, [], ◌∷◌, ◌++◌, Option, Some, None, Ok, Err, refl, sym, ap, subst, ◌∙◌}
use Rattle.dac_model_world.specs.laws.Common.{nat_lt, option_map, NodeId, Operation, Table, Opening, Shut, Noted, waits_of, WorldEvent, What, Message, Event, Boot, Crash, Tick, Ship, Hear, HearOp, NoSuchNode, RunningValue, ModelRunning, joined, shown, running_shown, refusal_of, refusal_by, message_of, ticks_by, opening_at, note_of, step_by, accepted, ModelWorld, happens, happens_by, answered_by, event_of, Step, Run, SetWorld, NodeSet, with_set, united, copied_by, copied_to, brought_to, operations_of, alone, set_step, IsPut, Unites, AllUnite}
use Rattle.dac_messages.specs.declared.event.Event.TheVariants.{Command as Commanded}
use Rattle.dac_model_world.specs.ModelWorld.{counted}
use Rattle.dac_model_world.specs.Uniting.{HearsSo}
use Rattle.dac_model_world.specs.laws.Runs.{run_first}
use Rattle.dac_model_world.specs.laws.Carried.{none_some, message_copy}
use Rattle.dac_model_world.specs.laws.Sound.{Answer, Sound, Accepts, seen, put_at, hears, hears_op, held_at, heard_accepts, goes_in, sound_step}

-- the world after a node unites its set with what an event brings
abbrev hearing : SetWorld → NodeId → What → SetWorld
hearing s n what = record { node = with_set s.node n (united (s.node n) (brought_to s n what)); issued = s.issued; copies = s.copies }

module _ (w : ModelWorld) (s : SetWorld) (n : NodeId) (r : ModelRunning) (h : Sound w s) (on : (w.node n).running ≡ Some r) where
  unite_ship : (m : Message) → IsPut s n m (record { node = s.node; issued = s.issued; copies = s.copies ++ copied_by (s.node n) n m })
  unite_ship m = let held = held_at w s n r h on in record { held = held.set; on = held.is; after = ap (λ (o : Option NodeSet). s.copies ++ copied_by o n m) held.is }

  -- the set of that node
  after_union : (what : What) (os : List Operation) → brought_to s n what ≡ os → (hearing s n what).node n ≡ united (Some (held_at w s n r h on).set) os
  after_union what os is = put_at s.node n (united (s.node n) (brought_to s n what)) ∙ (λ i. united ((held_at w s n r h on).is i) (is i))

  unite_hear : (what : What) (m : Message) → event_of w.operations w.messages what ≡ Ok (Hear m) → Accepts n (w.node n).last m → HearsSo s n what (hearing s n what)
  unite_hear what m is ok =
      let d = hears w.operations w.messages what m is in
      let held = held_at w s n r h on in
      let c = message_copy w.operations (seen w.node s.node h.entries) w.messages s.copies d.number m h.copies d.there in
      let fits = goes_in w s n what m r h on c.0 c.1.1 ok in
      let all : brought_to s n what ≡ c.0.operations = ap (brought_to s n) d.is ∙ ((λ i. copied_to n (held.is i) (c.1.0 i)) ∙ ap (λ b. cond b c.0.operations []) fits) in
      subst (λ (x : What). HearsSo s n x (hearing s n what)) (sym d.is) (record { held = held.set; on = held.is; copy = c.0; there = c.1.0; fits = fits; after = after_union what c.0.operations all })

  unite_hand : (what : What) (o : Operation) → event_of w.operations w.messages what ≡ Ok (HearOp o) → HearsSo s n what (hearing s n what)
  unite_hand what o is =
      let d = hears_op w.operations w.messages what o is in
      let held = held_at w s n r h on in
      let there : counted (operations_of s.issued) d.number ≡ Some o = ap (λ os. counted os d.number) h.issued ∙ d.there in
      subst (λ (x : What). HearsSo s n x (hearing s n what)) (sym d.is) (record { held = held.set; on = held.is; operation = o; there = there; after = after_union what (o ∷ []) (ap (brought_to s n) d.is ∙ ap alone there) })

tick_unites : (t : Table) (s : SetWorld) (n : NodeId) (what : What) (r : RunningValue) (noted : List (Option Noted)) (now : ℕ) (opening : Opening) → Unites s n what (Ok (ticks_by opening t r noted now).reply)
tick_unites t s n what r noted now Shut = tt
tick_unites t s n what r noted now _ = tt

unite_ok : (t : Table) (w : ModelWorld) (s : SetWorld) (n : NodeId) (what : What) (e : Event) (running : Option ModelRunning) → Sound w s → event_of w.operations w.messages what ≡ Ok e → refusal_of t (shown t (w.node n)) e ≡ None → (w.node n).running ≡ running →
    let step = accepted t n (w.node n).last running e in
    Unites s n what (answered_by w n step.node step.answer).answer
unite_ok t w s n what e None h is none on = tt
unite_ok t w s n what (Boot now) (Some r) h is none on = none_some (sym (ap (λ (l : Option ModelRunning). refusal_by t (w.node n).last (option_map (running_shown t) l) (Boot now)) (sym on) ∙ none))
unite_ok t w s n what Crash (Some r) h is none on = tt
unite_ok t w s n what (Commanded c) (Some r) h is none on = tt
unite_ok t w s n what (Tick now) (Some r) h is none on = tick_unites t s n what (running_shown t r) (waits_of t (note_of (joined r.log) (Tick now) ∷ r.notes)) now (opening_at t (running_shown t r) now)
unite_ok t w s n what (Ship to) (Some r) h is none on = unite_ship w s n r h on (message_of (running_shown t r) to)
unite_ok t w s n what (Hear m) (Some r) h is none on = unite_hear w s n r h on what m is (heard_accepts t w s n r h on m none)
unite_ok t w s n what (HearOp o) (Some r) h is none on = unite_hand w s n r h on what o is

unite_by : (t : Table) (w : ModelWorld) (s : SetWorld) (n : NodeId) (what : What) → Sound w s → Unites s n what (happens_by t w n (event_of w.operations w.messages what)).answer
unite_by t w s n what h =
    elim (event_of w.operations w.messages what) as (λ r. event_of w.operations w.messages what ≡ r → Unites s n what (happens_by t w n r).answer) [
      | Err fault ↦ λ _. tt
      | Ok e ↦ λ is. elim (refusal_of t (shown t (w.node n)) e) as (λ r. refusal_of t (shown t (w.node n)) e ≡ r → Unites s n what (answered_by w n (step_by r t n (w.node n) e).node (step_by r t n (w.node n) e).answer).answer) [
        | Some why ↦ λ _. tt
        | None ↦ λ none. unite_ok t w s n what e (w.node n).running h is none refl
      ] refl
    ] refl

unite_happens : (t : Table) (w : ModelWorld) (s : SetWorld) (e : WorldEvent) → Sound w s → Unites s e.node e.what (happens t w e).answer
unite_happens t w s e h =
    elim (nat_lt e.node.0 w.count) as (λ b. Unites s e.node e.what (cond b (happens_by t w e.node (event_of w.operations w.messages e.what)) (record { world = w; answer = Err NoSuchNode })).answer) [
      | true ↦ unite_by t w s e.node e.what h
      | false ↦ tt
    ]

unite_step : (t : Table) (w : ModelWorld) (s : SetWorld) (e : WorldEvent) (a : Answer) (next : ModelWorld) → Sound w s → Step w (happens t w e) a next → Unites s e.node e.what a
unite_step t w s e a next h (inl d) = subst (Unites s e.node e.what) (sym d.answered) (unite_happens t w s e h)
unite_step t w s e a next h (inr l) = subst (Unites s e.node e.what) (sym l.answered) tt

-- ships and hears unite sets in every run of the model world
pub unite_run : (t : Table) (w : ModelWorld) (s : SetWorld) (es : List WorldEvent) (answers : List Answer) (final : ModelWorld) → Sound w s → Run t w es answers final → AllUnite s es answers
unite_run t w s [] answers final h r = tt
unite_run t w s (e ∷ es) [] final h r = tt
unite_run t w s (e ∷ es) (a ∷ answers) final h run =
    let r = run_first t w e es a answers final run in
    (unite_step t w s e a r.0 h r.1.0, unite_run t r.0 (set_step s e.node e.what a) es answers final (sound_step t w s e a r.0 h r.1.0) r.1.1)
