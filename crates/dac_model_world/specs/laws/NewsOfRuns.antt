-- A hear reports whether it brought a dot that the node hadn't heard.
use Rattle.std.proofs.Common.{◌≡◌, ℕ, Bool, true, false, not, cond, List, [], ◌∷◌, Option, Some, None, ◌⊎◌, Ok, Err, inl, inr, refl, sym, ap, subst, ◌∙◌, true≢false}
use Rattle.dac_model_world.specs.laws.Common.{IsTrue, nat_lt, option_map, list_any, false_from_ne_true, NodeId, same_dot_is, Operation, StateValue, meaning_of, IsOperationOf, AreOperationsOf, DotsDetermine, has_dot, heard-meaning, found, finds, Table, Opening, Shut, Noted, waits_of, WorldEvent, What, content_of, Event, Boot, Tick, Hear, HearOp, NoSuchNode, is_below, is_below-is, RunningValue, ModelRunning, joined, shown, running_shown, refusal_of, refusal_by, ticks_by, opening_at, note_of, step_by, accepted, ModelWorld, happens, happens_by, answered_by, event_of, Step, Run, SetWorld, NodeSet, held_by, brought_to, set_step, HasDot}
use Rattle.std.specs.Prelude.{◌↔◌}
use Rattle.std.specs.FinSet as set
use Rattle.dac_events.specs.declared.refusal.Refusal.TheVariants.{AlreadyOn}
use Rattle.dac_model_world.specs.News.{HasNews, TellsNews, AnswersNews}
use Rattle.dac_model_world.specs.laws.Operations.{DistinctDots-agree}
use Rattle.dac_model_world.specs.laws.Meanings.{heard_in, below_where_heard}
use Rattle.dac_model_world.specs.laws.Runs.{run_first}
use Rattle.dac_model_world.specs.laws.Sound.{Answer, Sound, Brings, held_at, heard_accepts, brings_copy, brings_one, sound_step}

-- ---- sets of operations

-- the dot of an operation of a meaning
has_dot_heard : (os : List Operation) (o : Operation) → HasDot o.dot os → set.contains (meaning_of os).heard o.dot ≡ true
has_dot_heard os o h = subst (λ d. set.contains (meaning_of os).heard d ≡ true) h.1.1 (heard_in os h.0 h.1.0)

heard_has_dot : (os : List Operation) (o : Operation) → set.contains (meaning_of os).heard o.dot ≡ true → HasDot o.dot os
heard_has_dot os o t =
    let f = found (has_dot o.dot) os (sym (heard-meaning os o.dot) ∙ t) in
    (f.0, (f.1.0, sym (same_dot_is o.dot f.0.dot f.1.1)))

-- an operation that wasn't heard
is_missed : List Operation → Operation → Bool
is_missed os o = not (set.contains (meaning_of os).heard o.dot)

missed-not : (os : List Operation) (o : Operation) → is_missed os o ≡ true → set.contains (meaning_of os).heard o.dot ≡ true → ⊥
unfolding is_missed
missed-not os o m t = true≢false (sym m ∙ ap not t)

missed_else : (os : List Operation) (o : Operation) → (is_missed os o ≡ true → ⊥) → set.contains (meaning_of os).heard o.dot ≡ true
unfolding is_missed
missed_else os o f = pick (set.contains (meaning_of os).heard o.dot) f
  where
    pick : (b : Bool) → (not b ≡ true → ⊥) → b ≡ true
    pick true g = refl
    pick false g = absurd (g refl)

-- two meanings are compared to tell whether one brings news
pub news-is : (os ps ops : List Operation) → AreOperationsOf os ops → AreOperationsOf ps ops → DotsDetermine ops → IsTrue (not (is_below (meaning_of ps) (meaning_of os))) ↔ HasNews os ps
news-is os ps ops w v agree = (
  λ t. elim (list_any (is_missed os) ps) as (λ b. list_any (is_missed os) ps ≡ b → HasNews os ps) [
    | true ↦ λ e. let f = found (is_missed os) ps e in (f.0, (f.1.0, λ h. missed-not os f.0 f.1.1 (has_dot_heard os f.0 h)))
    | false ↦ λ e. absurd (true≢false (sym t ∙ ap not ((is_below-is (meaning_of ps) (meaning_of os)).0
        (below_where_heard os ps ops w v agree (λ o i. missed_else os o (λ m. true≢false (sym (finds (is_missed os) ps o i m) ∙ e)))))))
  ] refl,
  λ h. ap not (false_from_ne_true (is_below (meaning_of ps) (meaning_of os)) (λ t. h.1.1 (heard_has_dot os h.0 (((is_below-is (meaning_of ps) (meaning_of os)).1 t).heard h.0.dot (heard_in ps h.0 h.1.0))))),
)

-- ---- one event of the world

-- If the node has the rest of what an event brings, the whole is news if and only if the part is
news_of_part : (os part all : List Operation) → AreOperationsOf part all → ((o : Operation) → IsOperationOf o all → IsOperationOf o part ⊎ IsOperationOf o os) → HasNews os part ↔ HasNews os all
news_of_part os part all inside rest = (
  λ h. (h.0, (inside h.0 h.1.0, h.1.1)),
  λ h. elim (rest h.0 h.1.0) [ inl a ↦ (h.0, (a, h.1.1)) | inr b ↦ absurd (h.1.1 (h.0, (b, refl))) ],
)

-- news at a running node that hears
told_news : (w : ModelWorld) (s : SetWorld) (n : NodeId) (what : What) (body : StateValue) (r : ModelRunning) (h : Sound w s) (on : (w.node n).running ≡ Some r) → Brings w s n what body (held_at w s n r h on).set.operations →
    IsTrue (not (is_below body (joined r.log))) ↔ HasNews (held_by (s.node n)) (brought_to s n what)
told_news w s n what body r h on b =
    let held = held_at w s n r h on in
    let os = held.set.operations in
    let told : IsTrue (not (is_below (meaning_of b.delta) (meaning_of os))) ↔ HasNews os b.delta = news-is os b.delta w.operations held.ok.within (λ o i. b.within o (b.inside o i)) (DistinctDots-agree w.operations h.distinct) in
    let part = news_of_part os b.delta b.operations b.inside b.rest in
    subst (λ (o : Option NodeSet). IsTrue (not (is_below body (joined r.log))) ↔ HasNews (held_by o) (brought_to s n what)) (sym held.is)
    (subst (λ (ps : List Operation). IsTrue (not (is_below body (joined r.log))) ↔ HasNews os ps) (sym b.brought)
    (subst (λ (x : StateValue × StateValue). IsTrue (not (is_below x.0 x.1)) ↔ HasNews os b.operations) (λ i. (sym b.means i, sym held.state i))
    (λ t. part.0 (told.0 t), λ k. told.1 (part.1 k))))

no_news : (t : Table) (s : SetWorld) (e : WorldEvent) (r : RunningValue) (noted : List (Option Noted)) (now : ℕ) (opening : Opening) → TellsNews s e (Ok (ticks_by opening t r noted now).reply)
no_news t s e r noted now Shut = tt
no_news t s e r noted now _ = tt

news_ok : (t : Table) (w : ModelWorld) (s : SetWorld) (e : WorldEvent) (at : Event) (running : Option ModelRunning) → Sound w s → event_of w.operations w.messages e.what ≡ Ok at → refusal_of t (shown t (w.node e.node)) at ≡ None → (w.node e.node).running ≡ running →
    let step = accepted t e.node (w.node e.node).last running at in
    TellsNews s e (answered_by w e.node step.node step.answer).answer
news_ok t w s e at None h is none on = tt
news_ok t w s e (Boot now) (Some r) h is none on = absurd (no (ap (λ (l : Option ModelRunning). refusal_by t (w.node e.node).last (option_map (running_shown t) l) (Boot now)) (sym on) ∙ none))
  where
    no : Some AlreadyOn ≡ None → ⊥
    no p = cc
news_ok t w s e (Tick now) (Some r) h is none on = no_news t s e (running_shown t r) (waits_of t (note_of (joined r.log) (Tick now) ∷ r.notes)) now (opening_at t (running_shown t r) now)
news_ok t w s e (Hear m) (Some r) h is none on =
    told_news w s e.node e.what (content_of m.body) r h on (brings_copy w s e.node e.what m r h on is (heard_accepts t w s e.node r h on m none))
news_ok t w s e (HearOp o) (Some r) h is none on = told_news w s e.node e.what (meaning_of (o ∷ [])) r h on (brings_one w s e.node e.what o (held_at w s e.node r h on).set.operations h is)
news_ok t w s e _ (Some r) h is none on = tt

news_by : (t : Table) (w : ModelWorld) (s : SetWorld) (e : WorldEvent) → Sound w s → TellsNews s e (happens_by t w e.node (event_of w.operations w.messages e.what)).answer
news_by t w s e h =
    let n = e.node in
    elim (event_of w.operations w.messages e.what) as (λ r. event_of w.operations w.messages e.what ≡ r → TellsNews s e (happens_by t w n r).answer) [
      | Err fault ↦ λ _. tt
      | Ok at ↦ λ is. elim (refusal_of t (shown t (w.node n)) at) as (λ r. refusal_of t (shown t (w.node n)) at ≡ r → TellsNews s e (answered_by w n (step_by r t n (w.node n) at).node (step_by r t n (w.node n) at).answer).answer) [
        | Some why ↦ λ _. tt
        | None ↦ λ none. news_ok t w s e at (w.node n).running h is none refl
      ] refl
    ] refl

news_happens : (t : Table) (w : ModelWorld) (s : SetWorld) (e : WorldEvent) → Sound w s → TellsNews s e (happens t w e).answer
news_happens t w s e h =
    elim (nat_lt e.node.0 w.count) as (λ b. TellsNews s e (cond b (happens_by t w e.node (event_of w.operations w.messages e.what)) (record { world = w; answer = Err NoSuchNode })).answer) [
      | true ↦ news_by t w s e h
      | false ↦ tt
    ]

news_step : (t : Table) (w : ModelWorld) (s : SetWorld) (e : WorldEvent) (a : Answer) (next : ModelWorld) → Sound w s → Step w (happens t w e) a next → TellsNews s e a
news_step t w s e a next h (inl d) = subst (TellsNews s e) (sym d.answered) (news_happens t w s e h)
news_step t w s e a next h (inr l) = subst (TellsNews s e) (sym l.answered) tt

-- hears report news in every run of the model world
pub news_run : (t : Table) (w : ModelWorld) (s : SetWorld) (es : List WorldEvent) (answers : List Answer) (final : ModelWorld) → Sound w s → Run t w es answers final → AnswersNews s es answers
news_run t w s [] answers final h r = tt
news_run t w s (e ∷ es) [] final h r = tt
news_run t w s (e ∷ es) (a ∷ answers) final h run =
    let r = run_first t w e es a answers final run in
    (news_step t w s e a r.0 h r.1.0, news_run t r.0 (set_step s e.node e.what a) es answers final (sound_step t w s e a r.0 h r.1.0) r.1.1)
