-- The records of each node in a run are a history of it.
use Rattle.std.proofs.Common.{◌≡◌, Bool, true, false, cond, List, [], ◌∷◌, ◌++◌, Option, Some, None, Result, Ok, Err, inl, inr, nat_eq, refl, sym, ap, subst, ◌∙◌, eq-eqb}
use Rattle.dac_model_world.specs.laws.Common.{nat_lt, exact_unsigned_eq, NodeId, Table, WorldEvent, Event, Reply, Refusal, NoMemory, WorldFault, NoSuchNode, Refused, ModelNode, model_step, WorldValue, Entry, IsHistory, ModelWorld, happens, happens_by, answered_by, event_of, start, went, world_after, AnsweredAs, IsAnswer, RanAs, numbered, own_answer, recorded, records_of}
use Rattle.dac_model_world.specs.Records.{records_at, RecordsAreHistories, HaveHistories}
use Rattle.dac_model_world.specs.laws.Histories.{refused_stays}
use Rattle.dac_model_world.specs.laws.Runs.{went_as_answered, node_there}

-- ---- nothing is recorded
either_way : {X : Type 0} (b : Bool) (x : X) → cond b x x ≡ x
either_way true x = refl
either_way false x = refl

-- nothing is recorded of an event that names no message or operation
unnamed : (answer : Option (Result Reply Refusal)) (fault : WorldFault) → recorded answer (Err fault) ≡ []
unnamed None fault = refl
unnamed (Some answer) fault = refl

-- ---- one event, and the history after it
module _ (t : Table) (n : NodeId) (rest : List Entry) (final : ModelNode) where
  -- the first records, followed by the rest
  abbrev From : ModelNode → List Entry → Type 0
  From d first = IsHistory t n d (first ++ rest) final

  from_nothing : (d : ModelNode) (first : List Entry) → first ≡ [] → From d [] → From d first
  from_nothing d first none h = subst (From d) (sym none) h

  -- a refusal leaves the node, and is recorded
  refused_first : (d : ModelNode) (e : Event) (why : Refusal) → (model_step t n d e).answer ≡ Err why → From d [] → From d (recorded (own_answer (Err (Refused why))) (Ok e))
  refused_first d e NoMemory is h = h
  refused_first d e why is h = (is, subst (λ x. From x []) (sym (refused_stays t n d e why is)) h)

  -- an event at the node
  here_first : (w : ModelWorld) (e : Event) → let by = happens_by t w n (Ok e) in From (by.world.node n) [] → From (w.node n) (recorded (own_answer by.answer) (Ok e))
  here_first w e =
      let st = model_step t n (w.node n) e in
      elim st.answer as (λ r. st.answer ≡ r → From ((answered_by w n st.node r).world.node n) [] → From (w.node n) (recorded (own_answer (answered_by w n st.node r).answer) (Ok e))) [
        | Ok reply ↦ λ is h. (is, subst (λ x. From x []) (ap (λ b. cond b st.node (w.node n)) (eq-eqb n.0 n.0 refl)) h)
        | Err why ↦ λ is h. refused_first (w.node n) e why is h
      ] refl

  -- an event at another node leaves this one
  elsewhere : (w : ModelWorld) (m : NodeId) (e : Event) → nat_eq n.0 m.0 ≡ false → (happens_by t w m (Ok e)).world.node n ≡ w.node n
  elsewhere w m e other =
      let st = model_step t m (w.node m) e in
      elim st.answer as (λ r. (answered_by w m st.node r).world.node n ≡ w.node n) [
        | Ok reply ↦ ap (λ b. cond b st.node (w.node n)) other
        | Err why ↦ refl
      ]

  -- an event at any node
  event_first : (w : ModelWorld) (m : NodeId) (e : Event) → let by = happens_by t w m (Ok e) in From (by.world.node n) [] → From (w.node n) (cond (nat_eq n.0 m.0) (recorded (own_answer by.answer) (Ok e)) [])
  event_first w m e =
      elim (nat_eq n.0 m.0) as (λ b. nat_eq n.0 m.0 ≡ b → let by = happens_by t w m (Ok e) in From (by.world.node n) [] → From (w.node n) (cond b (recorded (own_answer by.answer) (Ok e)) [])) [
        | true ↦ λ same. subst (λ k. let by = happens_by t w k (Ok e) in From (by.world.node n) [] → From (w.node n) (recorded (own_answer by.answer) (Ok e))) (same_node (exact_unsigned_eq n.0 m.0 same)) (here_first w e)
        | false ↦ λ other h. subst (λ x. From x []) (elsewhere w m e other) h
      ] refl
    where
      same_node : n.0 ≡ m.0 → n ≡ m
      same_node is = ap (λ k. record { 0 = k }) is

  -- an event of the world
  by_first : (w : ModelWorld) (m : NodeId) (what : Result Event WorldFault) → let by = happens_by t w m what in From (by.world.node n) [] → From (w.node n) (cond (nat_eq n.0 m.0) (recorded (own_answer by.answer) what) [])
  by_first w m (Err fault) h =
      from_nothing (w.node n) (cond (nat_eq n.0 m.0) (recorded (own_answer (Err fault)) (Err fault)) [])
      (ap (λ first. cond (nat_eq n.0 m.0) first []) (unnamed (own_answer (Err fault)) fault) ∙ either_way (nat_eq n.0 m.0) []) h
  by_first w m (Ok e) h = event_first w m e h

  happens_first : (w : ModelWorld) (e : WorldEvent) → From ((happens t w e).world.node n) [] → From (w.node n) (records_of n w e (happens t w e).answer)
  happens_first w e =
      let what = event_of w.operations w.messages e.what in
      elim (nat_lt e.node.0 w.count) as (λ b. let by = cond b (happens_by t w e.node what) (record { world = w; answer = Err NoSuchNode }) in From (by.world.node n) [] → From (w.node n) (records_of n w e by.answer)) [
        | true ↦ by_first w e.node what
        | false ↦ from_nothing (w.node n) (records_of n w e (Err NoSuchNode)) (either_way (nat_eq n.0 e.node.0) [])
      ]

  -- an event with this result, which can be `NoMemory`
  pub answered_first : (w : ModelWorld) (e : WorldEvent) (a : Result Reply WorldFault) → IsAnswer (happens t w e) a → From ((went t w e a).node n) [] → From (w.node n) (records_of n w e a)
  answered_first w e a (inl is) h =
      subst (λ x. From (w.node n) (records_of n w e x)) (sym is)
      (happens_first w e (subst (λ (v : ModelWorld). From (v.node n) []) (went_as_answered t w e a is) h))
  answered_first w e a (inr lacked) h =
      from_nothing (w.node n) (records_of n w e a) (ap (records_of n w e) lacked.0 ∙ either_way (nat_eq n.0 e.node.0) [])
      (subst (λ x. From ((went t w e x).node n) []) lacked.0 h)

-- ---- runs
records_along : (t : Table) (n : NodeId) (w : ModelWorld) (es : List WorldEvent) (answers : List (Result Reply WorldFault)) → AnsweredAs t w es answers → IsHistory t n (w.node n) (records_at t n w es answers) ((world_after t w es answers).node n)
records_along t n w [] [] h = refl
records_along t n w [] (a ∷ answers) h = absurd h
records_along t n w (e ∷ es) [] h = absurd h
records_along t n w (e ∷ es) (a ∷ answers) h =
    let next = went t w e a in
    answered_first t n (records_at t n next es answers) ((world_after t next es answers).node n) w e a h.0 (records_along t n next es answers h.1)

pub records_are_histories : RecordsAreHistories
records_are_histories t events answers final run n =
    subst (λ (v : ModelWorld). IsHistory t n ((start t).node n) (records_at t n (start t) events answers) (v.node n)) (sym run.1)
    (records_along t n (start t) events answers run.0)

-- the histories end at nodes that show as those of the program's world
pub have_histories : (t : Table) (events : List WorldEvent) (answers : List (Result Reply WorldFault)) (v : WorldValue) → RanAs t events answers v → HaveHistories t events answers v
have_histories t events answers v ran = record {
  each = λ n x there. (ran.final.node (numbered n), (records_are_histories t events answers ran.final ran.run (numbered n), sym (node_there t ran.final v ran.shows n x there)));
}
