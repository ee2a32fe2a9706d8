-- Rounds of the model world are rounds of its members, so they settle all applications.
use Rattle.std.proofs.Common.{◌≡◌, ℕ, ◌<◌, ◌≤◌, true, List, [], ◌∷◌, ◌++◌, length, Option, Some, None, Ok, zero, suc, refl, sym, subst, ◌∙◌, arith, inl, inr, length-append, le_refl}
use Rattle.dac_settle.specs.laws.Common.{NodeId, AppId, StateValue, meaning_of, Table, app_count, verdict_of, WorldEvent, What, ModelRunning, WorldValue, ModelWorld, AnsweredAs, start, world_after, SetWorld, NodeSet, no_sets, copied_by, set_step, set_run, RunsWith, Sound, sound_run, sound_start, Member, Members, MemberEvent, IsSettled, member_by, members_of, AreInRound, IsWorldRound, AreRounds}
use Rattle.std.specs.Option.{is_some, option_map}
use Rattle.dac_messages.specs.declared.reply.Reply.TheVariants.{Shipped}
use Rattle.dac_model_world.specs.ModelWorld.{InEachRun, Shows, numbered, went}
use Rattle.dac_model_world.specs.Convergence.{state_by}
use Rattle.dac_model_world.specs.laws.OneNode.{state_in}
use Rattle.dac_model_world.specs.laws.Runs.{step_to}
use Rattle.dac_model_world.specs.laws.Sound.{Answer, sound_step}
use Rattle.dac_model_world.specs.laws.UnitingInRuns.{unite_run}
use Rattle.dac_model_world.specs.laws.Headline.{holds_sets}
use Rattle.dac_settle.specs.Settling.{Run, Ticks, IsRound, Rounds}
use Rattle.dac_settle.specs.WorldRounds.{IsReadyWorld, AnswersTick, Settles}
use Rattle.dac_settle.specs.laws.OneEvent.{since, since_all, seen_in, goes_step}
use Rattle.dac_settle.specs.laws.Settled.{all_settle}

-- ---- events of members

run_append : (t : Table) (es fs : List MemberEvent) (w mid final : Members) → Run t w es mid → Run t mid fs final → Run t w (es ++ fs) final
run_append t [] fs w mid final r s = subst (λ v. Run t v fs final) r s
run_append t (e ∷ es) fs w mid final r s = (r.0, r.1, run_append t es fs r.0 mid final r.2 s)

ticks_left : (n : NodeId) (es fs : List MemberEvent) → Ticks n es → Ticks n (es ++ fs)
ticks_left n [] fs h = absurd h
ticks_left n (f ∷ es) fs h = elim h [ inl now ↦ inl now | inr rest ↦ inr (ticks_left n es fs rest) ]

ticks_right : (n : NodeId) (es fs : List MemberEvent) → Ticks n fs → Ticks n (es ++ fs)
ticks_right n [] fs h = h
ticks_right n (f ∷ es) fs h = inr (ticks_right n es fs h)

-- copies are never removed
copies_more : (s : SetWorld) (n : NodeId) (what : What) (a : Answer) → length s.copies ≤ length (set_step s n what a).copies
copies_more s n what (Ok (Shipped m)) = let all = length-append s.copies (copied_by (s.node n) n m) in omega arith
copies_more s n what _ = le_refl (length s.copies)

-- ---- a run in a round

module _ (t : Table) where
  abbrev Ran : ℕ → ModelWorld → SetWorld → List WorldEvent → List Answer → Type 0
  Ran b w s events answers =
      Sound (world_after t w events answers) (set_run s events answers)
      × ((es : List MemberEvent) × Run t (seen_in b w s) es (seen_in b (world_after t w events answers) (set_run s events answers)) × ((n : NodeId) → AnswersTick n events answers → Ticks n es))

  past : (a b c : ℕ) → a ≤ b → b ≤ c → a ≤ c
  past a b c p q = omega arith

  runs : (events : List WorldEvent) (answers : List Answer) (b : ℕ) (w : ModelWorld) (s : SetWorld) → Sound w s → b ≤ length s.copies → AnsweredAs t w events answers → AreInRound t b w events answers → Ran b w s events answers
  runs [] [] b w s h le answered fits = (h, ([], refl, λ n i. absurd i))
  runs [] (a ∷ answers) b w s h le answered fits = absurd answered
  runs (e ∷ events) [] b w s h le answered fits = absurd answered
  runs (e ∷ events) (a ∷ answers) b w s h le answered fits =
      let next = went t w e a in
      let later = set_step s e.node e.what a in
      let step = step_to t w e a answered.0 in
      let unites = unite_run t w s (e ∷ []) (a ∷ []) next h ((answered.0, tt), refl) in
      let first = goes_step t b w s e a next h le step fits.0 unites.0 in
      let rest = runs events answers b next later (sound_step t w s e a next h step) (past b (length s.copies) (length later.copies) le (copies_more s e.node e.what a)) answered.1 fits.1 in (
        rest.0,
        (
          first.0 ++ rest.1.0,
          run_append t first.0 rest.1.0 (seen_in b w s) (seen_in b next later) (seen_in b (world_after t next events answers) (set_run later events answers)) first.1 rest.1.1,
          λ n i. elim i [
            | inl here ↦ ticks_left n first.0 rest.1.0 (subst (λ m. Ticks m first.0) here.0 (first.2 here.1))
            | inr after ↦ ticks_right n first.0 rest.1.0 (rest.1.2 n after)
          ],
        ),
      )

  -- ---- rounds

  runs_if : (r : Option ModelRunning) (o : Option NodeSet) → is_some (member_by r o) ≡ true → is_some r ≡ true
  runs_if None o e = e
  runs_if (Some r) None e = refl
  runs_if (Some r) (Some x) e = refl

  module _ (w : ModelWorld) (s : SetWorld) (events : List WorldEvent) (answers : List Answer) (h : Sound w s) (round : IsWorldRound t w s events answers) where
    ran : Ran (length s.copies) w s events answers
    ran = runs events answers (length s.copies) w s h (le_refl (length s.copies)) round.answered round.fits

    round_is : IsRound t (members_of w s) (members_of (world_after t w events answers) (set_run s events answers))
    round_is = record {
      events = ran.1.0;
      copies = since (length s.copies) (set_run s events answers).copies;
      run = subst (λ cs. Run t (record { node = members_of w s; copies = cs }) ran.1.0 (seen_in (length s.copies) (world_after t w events answers) (set_run s events answers))) (since_all s.copies) ran.1.1;
      ticks = λ n is. ran.1.2 n (round.ticks n (runs_if (w.node n).running (s.node n) is));
      same = round.same;
    }

  -- the world after two lists of events, one after the other
  after_both : (w : ModelWorld) (es fs : List WorldEvent) (answers more : List Answer) → AnsweredAs t w es answers → world_after t w (es ++ fs) (answers ++ more) ≡ world_after t (world_after t w es answers) fs more
  after_both w [] fs [] more answered = refl
  after_both w [] fs (a ∷ answers) more answered = absurd answered
  after_both w (e ∷ es) fs [] more answered = absurd answered
  after_both w (e ∷ es) fs (a ∷ answers) more answered = after_both (went t w e a) es fs answers more answered.1

  sets_both : (w : ModelWorld) (s : SetWorld) (es fs : List WorldEvent) (answers more : List Answer) → AnsweredAs t w es answers → set_run s (es ++ fs) (answers ++ more) ≡ set_run (set_run s es answers) fs more
  sets_both w s [] fs [] more answered = refl
  sets_both w s [] fs (a ∷ answers) more answered = absurd answered
  sets_both w s (e ∷ es) fs [] more answered = absurd answered
  sets_both w s (e ∷ es) fs (a ∷ answers) more answered = sets_both (went t w e a) (set_step s e.node e.what a) es fs answers more answered.1

  -- this many rounds lead from one pair of worlds to another
  abbrev Reaches : ℕ → ModelWorld → SetWorld → ModelWorld → SetWorld → Type 0
  Reaches k w s final last = Rounds t k (members_of w s) (members_of final last) × Sound final last

  rounds_are : (k : ℕ) (w : ModelWorld) (s : SetWorld) (events : List WorldEvent) (answers : List Answer) → Sound w s → AreRounds t k w s events answers → Reaches k w s (world_after t w events answers) (set_run s events answers)
  rounds_are zero w s events answers h r =
      subst (λ (p : List WorldEvent × List Answer). Reaches zero w s (world_after t w p.0 p.1) (set_run s p.0 p.1)) (λ i. (sym r.0 i, sym r.1 i)) (refl, h)
  rounds_are (suc k) w s events answers h r =
      let mid = world_after t w r.0 r.2 in
      let sets = set_run s r.0 r.2 in
      let first = ran w s r.0 r.2 h r.6 in
      let rest = rounds_are k mid sets r.1 r.3 first.0 r.7 in
      let whole : Reaches (suc k) w s (world_after t mid r.1 r.3) (set_run sets r.1 r.3) = ((members_of mid sets, round_is w s r.0 r.2 h r.6, rest.0), rest.1) in
      subst (λ (p : List WorldEvent × List Answer). Reaches (suc k) w s (world_after t w p.0 p.1) (set_run s p.0 p.1)) (λ i. (sym r.4 i, sym r.5 i))
      (subst (λ (p : ModelWorld × SetWorld). Reaches (suc k) w s p.0 p.1) (λ i. (sym (after_both w r.0 r.1 r.2 r.3 r.6.answered) i, sym (sets_both w s r.0 r.1 r.2 r.3 r.6.answered) i)) whole)

-- ---- the program's world

pub set_there : (o : Option NodeSet) (state : StateValue) → option_map state_by o ≡ Some state → (set : NodeSet) × (o ≡ Some set) × (meaning_of set.operations ≡ state)
set_there None state e = cc
set_there (Some set) state e = (set, refl, one e)
  where
    one : {a b : StateValue} → ◌≡◌ {A = Option StateValue} (Some a) (Some b) → a ≡ b
    one e = cc

run_there : (o : Option ModelRunning) (state : StateValue) → option_map state_in o ≡ Some state → (r : ModelRunning) × (o ≡ Some r)
run_there None state e = cc
run_there (Some r) state e = (r, refl)

-- each state of the program's world is that of a set
pub held_shown : (t : Table) (final : ModelWorld) (last : SetWorld) (v : WorldValue) → Shows t final v → Sound final last → (n : ℕ) (state : StateValue) → RunsWith v n state → option_map state_by (last.node (numbered n)) ≡ Some state
held_shown t final last v shows h n state runs = sym ((holds_sets t final v last shows h).each n runs.node runs.there) ∙ runs.state

-- after all rounds each state of the program's world is settled
settled_there : (t : Table) (w final : ModelWorld) (s last : SetWorld) (v : WorldValue) → IsReadyWorld w s → Rounds t (app_count t) (members_of w s) (members_of final last) → Sound final last → Shows t final v
    → (n : ℕ) (state : StateValue) → RunsWith v n state → (app : AppId) → app.0 < app_count t → IsSettled (verdict_of t state app)
settled_there t w final s last v ready rounds h shows n state runs app lt =
    let m = numbered n in
    let held = held_shown t final last v shows h n state runs in
    let set = set_there (last.node m) state held in
    let r = run_there (final.node m).running state ((h.nodes m).state ∙ held) in
    let d : Member = record { inc = r.0.origin.inc; held = set.0.operations; notes = r.0.notes } in
    subst (λ u. IsSettled (verdict_of t u app)) set.2 (all_settle t (members_of w s) (members_of final last) ready rounds m d (λ i. member_by (r.1 i) (set.1 i)) app lt)

pub worlds_settle : InEachRun Settles
worlds_settle t events answers v ran = record {
  each = λ e n state runs app lt.
      let w = world_after t (start t) e.before e.replies in
      let s = set_run no_sets e.before e.replies in
      let h = sound_run t (start t) no_sets e.before e.replies w (sound_start t) (e.answered, refl) in
      let all = rounds_are t (app_count t) w s e.rounds e.more h e.last in
      let ends : ran.final ≡ world_after t w e.rounds e.more =
      ran.run.1 ∙ (λ i. world_after t (start t) (e.events_are i) (e.answers_are i)) ∙ after_both t (start t) e.before e.rounds e.replies e.more e.answered in
      settled_there t w (world_after t w e.rounds e.more) s (set_run s e.rounds e.more) v e.ready all.0 all.1 (subst (λ f. Shows t f v) ends ran.shows) n state runs app lt;
}
