-- A start gate that has opened stays open.
use Rattle.std.proofs.Common.{◌≡◌, true, false, cond, nat_eq, List, [], ◌∷◌, Result, Ok, Err, inl, inr, refl, sym, ap, subst, append-nil, eq-eqb}
use Rattle.dac_model_world.specs.laws.Common.{nat_lt, exact_unsigned_eq, NodeId, Table, Event, Reply, WorldEvent, NoMemory, WorldFault, NoSuchNode, Refused, ModelNode, model_step, Entry, IsHistory, ModelWorld, happens, happens_by, answered_by, event_of, went, AnsweredAs, IsAnswer, own_answer, recorded, records_of}
use Rattle.dac_model_node.specs.Gates.{SaysOpen, SaysShut, SaysOff, Answers, RunsOpen}
use Rattle.dac_model_node.specs.laws.Gates.{ticks_open, open_stays, open_is_open}
use Rattle.dac_model_world.specs.Gates.{NoneGoesOff, GatesStayOpen, IsOpenUntilOff, StayOpen}
use Rattle.dac_model_world.specs.laws.Records.{answered_first}
use Rattle.dac_model_world.specs.laws.Runs.{went_as_answered}

-- ---- a history of a node

goes_over : (t : Table) (me : NodeId) (d final : ModelNode) (xs : List Entry) → RunsOpen d.running → IsHistory t me d xs final → NoneGoesOff xs → RunsOpen final.running
goes_over t me d final [] is history none = subst (λ (n : ModelNode). RunsOpen n.running) (sym history) is
goes_over t me d final (x ∷ xs) is history none =
    goes_over t me (model_step t me d x.event).node final xs (open_stays t me d x.event is (λ off. none.0 (subst (Answers SaysOff) history.0 off))) history.1 none.1

pub gates_stay_open : GatesStayOpen
gates_stay_open t me d final e later between says history none =
    open_is_open t me final later (goes_over t me (model_step t me d e).node final between (ticks_open t me d e says) history none)

-- ---- one event of a world

module _ (t : Table) (w : ModelWorld) where
  opened_here : (n : NodeId) (what : Result Event WorldFault) → Answers SaysOpen (happens_by t w n what).answer → RunsOpen ((happens_by t w n what).world.node n).running
  opened_here n (Err fault) says = absurd says
  opened_here n (Ok e) says =
      let st = model_step t n (w.node n) e in
      elim st.answer as (λ r. st.answer ≡ r → Answers SaysOpen (answered_by w n st.node r).answer → RunsOpen ((answered_by w n st.node r).world.node n).running) [
        | Ok reply ↦ λ is says. subst (λ (d : ModelNode). RunsOpen d.running) (sym (ap (λ b. cond b st.node (w.node n)) (eq-eqb n.0 n.0 refl))) (ticks_open t n (w.node n) e (subst (Answers SaysOpen) (sym is) says))
        | Err why ↦ λ is says. absurd says
      ] refl says

  opened_there : (e : WorldEvent) → Answers SaysOpen (happens t w e).answer → RunsOpen ((happens t w e).world.node e.node).running
  opened_there e =
      let what = event_of w.operations w.messages e.what in
      elim (nat_lt e.node.0 w.count) as (λ b. let by = cond b (happens_by t w e.node what) (record { world = w; answer = Err NoSuchNode }) in Answers SaysOpen by.answer → RunsOpen (by.world.node e.node).running) [
        | true ↦ opened_here e.node what
        | false ↦ λ says. absurd says
      ]

  found_here : (n : NodeId) (what : Result Event WorldFault) → RunsOpen (w.node n).running → ¬ (Answers SaysShut (happens_by t w n what).answer)
  found_here n (Err fault) is = λ shut. shut
  found_here n (Ok e) is =
      let st = model_step t n (w.node n) e in
      elim st.answer as (λ r. st.answer ≡ r → ¬ (Answers SaysShut (answered_by w n st.node r).answer)) [
        | Ok reply ↦ λ says shut. open_is_open t n (w.node n) e is (subst (Answers SaysShut) (sym says) shut)
        | Err why ↦ λ says shut. shut
      ] refl

  found_there : (e : WorldEvent) → RunsOpen (w.node e.node).running → ¬ (Answers SaysShut (happens t w e).answer)
  found_there e is =
      let what = event_of w.operations w.messages e.what in
      elim (nat_lt e.node.0 w.count) as (λ b. ¬ (Answers SaysShut (cond b (happens_by t w e.node what) (record { world = w; answer = Err NoSuchNode })).answer)) [
        | true ↦ found_here e.node what is
        | false ↦ λ shut. shut
      ]

  -- an event with this result, which can be `NoMemory`
  opens_by : (e : WorldEvent) (a : Result Reply WorldFault) → IsAnswer (happens t w e) a → Answers SaysOpen a → RunsOpen ((went t w e a).node e.node).running
  opens_by e a (inl is) says = subst (λ (v : ModelWorld). RunsOpen (v.node e.node).running) (sym (went_as_answered t w e a is)) (opened_there e (subst (Answers SaysOpen) is says))
  opens_by e a (inr lacked) says = absurd (subst (Answers SaysOpen) lacked.0 says)

  finds_open : (e : WorldEvent) (a : Result Reply WorldFault) → IsAnswer (happens t w e) a → RunsOpen (w.node e.node).running → ¬ (Answers SaysShut a)
  finds_open e a (inl is) runs = λ shut. found_there e runs (subst (Answers SaysShut) is shut)
  finds_open e a (inr lacked) runs = λ shut. subst (Answers SaysShut) lacked.0 shut

none_off : (a : Result Reply WorldFault) (what : Result Event WorldFault) → ¬ (Answers SaysOff a) → NoneGoesOff (recorded (own_answer a) what)
none_off (Ok reply) (Ok e) stays = (stays, tt)
none_off (Ok reply) (Err fault) stays = tt
none_off (Err (Refused NoMemory)) what stays = tt
none_off (Err (Refused why)) (Ok e) stays = ((λ off. off), tt)
none_off (Err (Refused why)) (Err fault) stays = tt
none_off (Err _) what stays = tt

goes_through : (t : Table) (n : NodeId) (w : ModelWorld) (e : WorldEvent) (a : Result Reply WorldFault) → IsAnswer (happens t w e) a → RunsOpen (w.node n).running → (e.node ≡ n → ¬ (Answers SaysOff a)) → RunsOpen ((went t w e a).node n).running
goes_through t n w e a is runs stays =
    let next = (went t w e a).node n in
    let history : IsHistory t n (w.node n) (records_of n w e a) next = subst (λ xs. IsHistory t n (w.node n) xs next) (append-nil (records_of n w e a)) (answered_first t n [] next w e a is refl) in
    goes_over t n (w.node n) next (records_of n w e a) runs history none
  where
    same_node : n.0 ≡ e.node.0 → e.node ≡ n
    same_node same = ap (λ k. record { 0 = k }) (sym same)

    none : NoneGoesOff (records_of n w e a)
    none = elim (nat_eq n.0 e.node.0) as (λ b. nat_eq n.0 e.node.0 ≡ b → NoneGoesOff (cond b (recorded (own_answer a) (event_of w.operations w.messages e.what)) [])) [
      | true ↦ λ same. none_off a (event_of w.operations w.messages e.what) (stays (same_node (exact_unsigned_eq n.0 e.node.0 same)))
      | false ↦ λ other. tt
    ] refl

-- ---- runs

open_until_off : (t : Table) (n : NodeId) (w : ModelWorld) (es : List WorldEvent) (answers : List (Result Reply WorldFault)) → RunsOpen (w.node n).running → AnsweredAs t w es answers → IsOpenUntilOff n es answers
open_until_off t n w [] answers runs h = tt
open_until_off t n w (e ∷ es) [] runs h = tt
open_until_off t n w (e ∷ es) (a ∷ answers) runs h = (
  (λ same. finds_open t w e a h.0 (subst (λ k. RunsOpen (w.node k).running) (sym same) runs)),
  λ stays. open_until_off t n (went t w e a) es answers (goes_through t n w e a h.0 runs stays) h.1,
)

pub stay_open : (t : Table) (w : ModelWorld) (es : List WorldEvent) (answers : List (Result Reply WorldFault)) → AnsweredAs t w es answers → StayOpen es answers
stay_open t w [] answers h = tt
stay_open t w (e ∷ es) [] h = tt
stay_open t w (e ∷ es) (a ∷ answers) h = (
  (λ says. open_until_off t e.node (went t w e a) es answers (opens_by t w e a h.0 says) h.1),
  stay_open t (went t w e a) es answers h.1,
)
