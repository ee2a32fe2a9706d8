-- The records of a run are its seen events without those that name no node, message or operation. Dropping these events
-- from the list changes no record.
use Rattle.std.proofs.Common.{◌≡◌, ℕ, Bool, true, false, cond, inl, inr, List, [], ◌∷◌, ◌++◌, Option, Some, None, Result, Ok, Err, map, nat_eq, refl, sym, ap, subst, ◌∙◌}
use Rattle.dac_weave.specs.laws.Common.{cases_eq, NodeId, Table, WorldEvent, Event, Reply, Refusal, WorldFault, NoSuchNode, ModelNode, model_step, ModelWorld, WorldStepped, happens, happens_by, answered_by, event_of, start, Record, JournalValue, entry_of, Seen, seen_of, seen_at, as_seen, as_world_result, Gives, IsRecorded}
use Rattle.std.specs.Prelude.{nat_lt}
use Rattle.std.proofs.lemmas.Bool.{ne_eqb}
use Rattle.dac_events.specs.declared.refusal.Refusal.TheVariants.{NoMemory}
use Rattle.dac_journal.specs.Histories.{Entry}
use Rattle.dac_journal.specs.ModelWorld.{out_of_memory}
use Rattle.dac_journal.specs.Records.{own_answer, recorded, records_of, records_at}
use Rattle.dac_journal.specs.EveryList.{answers_of}
use Rattle.dac_journal.specs.laws.Memory.{enough_memory}
use Rattle.dac_journal.specs.laws.Runs.{went_as_answered}

-- ---- small facts
eq-flip : (a b : ℕ) → nat_eq a b ≡ nat_eq b a
eq-flip a b = elim (cases_eq a b) as (λ _. nat_eq a b ≡ nat_eq b a) [
  | inl e ↦ ap (λ k. nat_eq k b) e ∙ ap (λ k. nat_eq b k) (sym e)
  | inr ne ↦ ne_eqb a b ne ∙ sym (ne_eqb b a (λ e. ne (sym e)))
]

either_way : {X : Type 0} (b : Bool) (x : X) → cond b x x ≡ x
either_way true x = refl
either_way false x = refl

unnamed : (answer : Option (Result Reply Refusal)) (fault : WorldFault) → recorded answer (Err fault) ≡ []
unnamed None fault = refl
unnamed (Some answer) fault = refl

own-as_world_result : (a : Result Reply Refusal) → (a ≡ Err NoMemory → ⊥) → own_answer (as_world_result a) ≡ Some a
own-as_world_result (Ok x) h = refl
own-as_world_result (Err NoMemory) h = absurd (h refl)
own-as_world_result (Err why) h = refl

answered-as_world_result : (w : ModelWorld) (n : NodeId) (d : ModelNode) (a : Result Reply Refusal) → (answered_by w n d a).answer ≡ as_world_result a
answered-as_world_result w n d (Ok x) = refl
answered-as_world_result w n d (Err x) = refl

-- ---- records of seen events
abbrev entries_of : List Seen → List Entry
entries_of [] = []
entries_of (x ∷ xs) = recorded (own_answer x.answer) x.event ++ entries_of xs

seen-first : (b : Bool) (x : Seen) (rest : List Seen) → cond b (recorded (own_answer x.answer) x.event) [] ++ entries_of rest ≡ entries_of (cond b (x ∷ rest) rest)
seen-first true x rest = refl
seen-first false x rest = refl

records-seen : (t : Table) (n : NodeId) (w : ModelWorld) (es : List WorldEvent) → records_at t n w es (answers_of t w es) ≡ entries_of (seen_at t n w es)
records-seen t n w [] = refl
records-seen t n w (e ∷ es) =
    let by = happens t w e in
    let x = seen_of t w e in
    let rest = seen_at t n by.world es in
    ap (λ v. records_of n w e by.answer ++ records_at t n v es (answers_of t by.world es)) (went_as_answered t w e by.answer refl)
    ∙ (ap (λ (xs : List Entry). records_of n w e by.answer ++ xs) (records-seen t n by.world es)
    ∙ (ap (λ b. cond b (recorded (own_answer x.answer) x.event) [] ++ entries_of rest) (eq-flip n.0 e.node.0)
    ∙ seen-first (nat_eq e.node.0 n.0) x rest))

-- no step fails for lack of memory
abbrev AllEnough : List Seen → Type 0
AllEnough [] = Unit {0}
AllEnough (x ∷ xs) = (x.answer ≡ out_of_memory → ⊥) × AllEnough xs

enough-seen : (t : Table) (n : NodeId) (w : ModelWorld) (es : List WorldEvent) → AllEnough (seen_at t n w es)
enough-seen t n w [] = tt
enough-seen t n w (e ∷ es) =
    let rest = seen_at t n (happens t w e).world es in
    let later = enough-seen t n (happens t w e).world es in
    elim (nat_eq e.node.0 n.0) as (λ b. AllEnough (cond b (seen_of t w e ∷ rest) rest)) [
      | true ↦ (enough_memory t w e, later)
      | false ↦ later
    ]

entries-journal_seen : (rs : List Record) → AllEnough (map as_seen rs) → entries_of (map as_seen rs) ≡ map entry_of rs
entries-journal_seen [] h = refl
entries-journal_seen (r ∷ rs) h =
    ap (λ o. recorded o (Ok r.event) ++ entries_of (map as_seen rs)) (own-as_world_result r.answer (λ e. h.0 (ap as_world_result e)))
    ∙ ap (λ (xs : List Entry). entry_of r ∷ xs) (entries-journal_seen rs h.1)

-- a run that reproduces journals records them
pub gives-recorded : (t : Table) (js : List JournalValue) (es : List WorldEvent) → Gives t js es → IsRecorded t js es
gives-recorded t js es g = record {
  fit = g.fit;
  each = λ i j at.
      let n = j.beginning.node in
      records-seen t n (start t) es ∙ (ap entries_of (g.each i j at) ∙ entries-journal_seen j.records (subst AllEnough (g.each i j at) (enough-seen t n (start t) es)));
  others = λ n none. records-seen t n (start t) es ∙ ap entries_of (g.others n none);
}

-- ---- dropping events that name nothing
abbrev kept_by : Bool → Result Event WorldFault → WorldEvent → List WorldEvent → List WorldEvent
kept_by false what e es = es
kept_by true (Err fault) e es = es
kept_by true (Ok x) e es = e ∷ es

abbrev pub kept : Table → ModelWorld → List WorldEvent → List WorldEvent
kept t w [] = []
kept t w (e ∷ es) = kept_by (nat_lt e.node.0 w.count) (event_of w.operations w.messages e.what) e (kept t (happens t w e).world es)

-- an entry as an event seen in a run
abbrev seen_entry : Entry → Seen
seen_entry x = record { event = Ok x.event; answer = as_world_result x.answer }

kept-first : (b : Bool) (x : Entry) (xs : List Entry) → cond b (seen_entry x ∷ map seen_entry xs) (map seen_entry xs) ≡ map seen_entry (cond b (x ∷ []) [] ++ xs)
kept-first true x xs = refl
kept-first false x xs = refl

module _ (t : Table) (n : NodeId) (w : ModelWorld) (e : WorldEvent) (es : List WorldEvent) (rest : List Entry) where
  abbrev by : WorldStepped
  by = happens t w e

  abbrev what : Result Event WorldFault
  what = event_of w.operations w.messages e.what

  abbrev nowhere : WorldStepped
  nowhere = record { world = w; answer = Err NoSuchNode }

  -- an event that changes nothing and isn't recorded can be dropped
  drops : by.world ≡ w → records_of n w e by.answer ≡ [] → seen_at t n by.world es ≡ map seen_entry rest → seen_at t n w es ≡ map seen_entry (records_of n w e by.answer ++ rest)
  drops same none h = ap (λ v. seen_at t n v es) (sym same) ∙ (h ∙ ap (λ (xs : List Entry). map seen_entry (xs ++ rest)) (sym none))

  drops-nowhere : nat_lt e.node.0 w.count ≡ false → seen_at t n by.world es ≡ map seen_entry rest → seen_at t n w es ≡ map seen_entry (records_of n w e by.answer ++ rest)
  drops-nowhere out =
      let is : by ≡ nowhere = ap (λ b. cond b (happens_by t w e.node what) nowhere) out in
      drops (ap (λ (s : WorldStepped). s.world) is) (ap (λ (s : WorldStepped). records_of n w e s.answer) is ∙ either_way (nat_eq n.0 e.node.0) [])

  drops-unnamed : (fault : WorldFault) → nat_lt e.node.0 w.count ≡ true → what ≡ Err fault → seen_at t n by.world es ≡ map seen_entry rest → seen_at t n w es ≡ map seen_entry (records_of n w e by.answer ++ rest)
  drops-unnamed fault there none =
      let is : by ≡ happens_by t w e.node (Err fault) = ap (λ b. cond b (happens_by t w e.node what) nowhere) there ∙ ap (happens_by t w e.node) none in
      drops (ap (λ (s : WorldStepped). s.world) is)
      (ap (λ (s : WorldStepped). records_of n w e s.answer) is
      ∙ (ap (λ x. cond (nat_eq n.0 e.node.0) (recorded (own_answer (Err fault)) x) []) none
      ∙ (ap (λ (xs : List Entry). cond (nat_eq n.0 e.node.0) xs []) (unnamed (own_answer (Err fault)) fault) ∙ either_way (nat_eq n.0 e.node.0) [])))

  keeps : (x : Event) → nat_lt e.node.0 w.count ≡ true → what ≡ Ok x → seen_at t n by.world es ≡ map seen_entry rest → seen_at t n w (e ∷ es) ≡ map seen_entry (records_of n w e by.answer ++ rest)
  keeps x there named h =
      let st = model_step t e.node (w.node e.node) x in
      let is : by ≡ happens_by t w e.node (Ok x) = ap (λ b. cond b (happens_by t w e.node what) nowhere) there ∙ ap (happens_by t w e.node) named in
      let answer : by.answer ≡ as_world_result st.answer = ap (λ (s : WorldStepped). s.answer) is ∙ answered-as_world_result w e.node st.node st.answer in
      let own : own_answer by.answer ≡ Some st.answer = ap own_answer answer ∙ own-as_world_result st.answer (λ bad. enough_memory t w e (answer ∙ ap as_world_result bad)) in
      let entry : Entry = record { event = x; answer = st.answer } in
      let first : records_of n w e by.answer ≡ cond (nat_eq n.0 e.node.0) (entry ∷ []) [] =
      ap (λ o. cond (nat_eq n.0 e.node.0) (recorded o what) []) own ∙ ap (λ y. cond (nat_eq n.0 e.node.0) (recorded (Some st.answer) y) []) named in
      let seen : seen_of t w e ≡ seen_entry entry = λ k. record { event = named k; answer = answer k } in
      let later = seen_at t n by.world es in
      ap (λ (y : Seen). cond (nat_eq e.node.0 n.0) (y ∷ later) later) seen
      ∙ (ap (λ (xs : List Seen). cond (nat_eq e.node.0 n.0) (seen_entry entry ∷ xs) xs) h
      ∙ (kept-first (nat_eq e.node.0 n.0) entry rest
      ∙ (ap (λ b. map seen_entry (cond b (entry ∷ []) [] ++ rest)) (eq-flip e.node.0 n.0)
      ∙ ap (λ (xs : List Entry). map seen_entry (xs ++ rest)) (sym first))))

  kept-event : seen_at t n by.world es ≡ map seen_entry rest → seen_at t n w (kept_by (nat_lt e.node.0 w.count) what e es) ≡ map seen_entry (records_of n w e by.answer ++ rest)
  kept-event h = elim (nat_lt e.node.0 w.count) as (λ b. nat_lt e.node.0 w.count ≡ b → seen_at t n w (kept_by b what e es) ≡ map seen_entry (records_of n w e by.answer ++ rest)) [
    | false ↦ λ out. drops-nowhere out h
    | true ↦ λ there. elim what as (λ y. what ≡ y → seen_at t n w (kept_by true y e es) ≡ map seen_entry (records_of n w e by.answer ++ rest)) [
      | Err fault ↦ λ none. drops-unnamed fault there none h
      | Ok x ↦ λ named. keeps x there named h
    ] refl
  ] refl

kept-seen : (t : Table) (n : NodeId) (w : ModelWorld) (es : List WorldEvent) → seen_at t n w (kept t w es) ≡ map seen_entry (records_at t n w es (answers_of t w es))
kept-seen t n w [] = refl
kept-seen t n w (e ∷ es) =
    let next = (happens t w e).world in
    let answer = (happens t w e).answer in
    kept-event t n w e (kept t next es) (records_at t n next es (answers_of t next es)) (kept-seen t n next es)
    ∙ ap (λ v. map seen_entry (records_of n w e answer ++ records_at t n v es (answers_of t next es))) (sym (went_as_answered t w e answer refl))

entries-seen : (rs : List Record) → map seen_entry (map entry_of rs) ≡ map as_seen rs
entries-seen [] = refl
entries-seen (r ∷ rs) = ap (λ (xs : List Seen). as_seen r ∷ xs) (entries-seen rs)

-- if a run records the journals, the run of its events that name something reproduces them
pub recorded-gives : (t : Table) (js : List JournalValue) (es : List WorldEvent) → IsRecorded t js es → Gives t js (kept t (start t) es)
recorded-gives t js es h = record {
  fit = h.fit;
  each = λ i j at. kept-seen t j.beginning.node (start t) es ∙ (ap (λ (xs : List Entry). map seen_entry xs) (h.each i j at) ∙ entries-seen j.records);
  others = λ n none. kept-seen t n (start t) es ∙ ap (λ (xs : List Entry). map seen_entry xs) (h.others n none);
}
