-- The dots that a node hears by an accepted event.
use Rattle.std.proofs.Common.{◌≡◌, ℕ, Bool, true, false, cond, ◌||◌, List, [], ◌∷◌, Option, Some, None, map, refl, sym, ap, ◌∙◌, true≢false}
use Rattle.dac_model_node.specs.laws.Common.{fold, NodeId, Operation, StateValue, join, meaning_of, is_below, is_below-is, Table, Opening, Shut, Opened, GiveUp, Noted, content_of, Event, Boot, Crash, Tick, Ship, Hear, HearOp, AlreadyOn, sweep_of, RunningValue, state_of, refusal_by, transition_of, brings, meanings, opening_at, ticks_by, left_by, reply_by, running_by}
use Rattle.std.specs.List.{list_any}
use Rattle.std.specs.FinSet as set
use Rattle.dac_origins.specs.declared.dot.Dot.{Dot}
use Rattle.dac_origins.specs.Dots.{Dots, IsSubset, dot_cmp}
use Rattle.dac_origins.specs.laws.Dots.{dots_total, exact_dots}
use Rattle.dac_store.specs.laws.Stores.{same_context, subset_left, subset_union}
use Rattle.dac_wishes.specs.Writes.{same_dot}
use Rattle.dac_meaning.specs.laws.StateLaws.{heard-join}
use Rattle.dac_messages.specs.declared.event.Event.TheVariants.{Command as Commanded}
use Rattle.dac_model_node.specs.Hearing.{dots_brought, dots_issued, HearsExactly}
use Rattle.dac_model_node.specs.laws.Options.{some_same}

-- the union of a set and a subset is the set
nothing_more : (c d : Dots) → IsSubset d c → c ≡ set.union c d
nothing_more c d h = same_context c (set.union c d) (subset_left c d) (subset_union c d c (λ x e. e) h)

nothing_at_all : (c : Dots) → c ≡ set.union c set.empty
nothing_at_all c = nothing_more c set.empty (λ x e. absurd (true≢false (sym e ∙ set.contains-empty dot_cmp x)))

-- the heard dots of one operation
one_heard : (o : Operation) → (meaning_of (o ∷ [])).heard ≡ set.from_list (o.dot ∷ [])
unfolding meaning_of
one_heard o = refl

or_none : (b : Bool) → b ≡ (b || false)
or_none true = refl
or_none false = refl

or_assoc : (a b c : Bool) → ((a || (b || false)) || c) ≡ (a || (b || c))
or_assoc true b c = refl
or_assoc false true c = refl
or_assoc false false c = refl

-- the heard dots after some operations, by membership
heard_any : (s : StateValue) (os : List Operation) (x : Dot) → set.contains (fold join s (meanings os)).heard x ≡ (set.contains s.heard x || list_any (same_dot x) (map (λ (o : Operation). o.dot) os))
heard_any s [] x = or_none (set.contains s.heard x)
heard_any s (o ∷ os) x =
    let m = meaning_of (o ∷ []) in
    let rest = list_any (same_dot x) (map (λ (p : Operation). p.dot) os) in
    heard_any (join s m) os x
    ∙ ap (λ b. b || rest) (ap (λ h. set.contains h x) (heard-join s m) ∙ (set.contains-union dots_total s.heard m.heard x
    ∙ ap (λ b. set.contains s.heard x || b) (ap (λ h. set.contains h x) (one_heard o) ∙ set.contains-from_list dots_total (o.dot ∷ []) x)))
    ∙ or_assoc (set.contains s.heard x) (same_dot x o.dot) rest

-- the heard dots after some operations are the state's and theirs
pub heard_all : (s : StateValue) (os : List Operation) → (fold join s (meanings os)).heard ≡ set.union s.heard (set.from_list (map (λ (o : Operation). o.dot) os))
heard_all s os =
    let dots = map (λ (o : Operation). o.dot) os in
    set.same_set dots_total exact_dots (fold join s (meanings os)).heard (set.union s.heard (set.from_list dots)) (λ x.
    heard_any s os x ∙ sym (set.contains-union dots_total s.heard (set.from_list dots) x ∙ ap (λ b. set.contains s.heard x || b) (set.contains-from_list dots_total dots x)))

-- the heard dots after a body, whether or not it is below the state
body_heard : (s body : StateValue) (b : Bool) → is_below body s ≡ b → (fold join s (cond b [] (body ∷ []))).heard ≡ set.union s.heard body.heard
body_heard s body true e = nothing_more s.heard body.heard ((is_below-is body s).1 e).heard
body_heard s body false e = heard-join s body

off_run : {P : Type 0} {r : RunningValue} → None ≡ Some r → P
off_run e = cc

-- the heard dots of the running node are those of its state
run_state : (r r' : RunningValue) (s : StateValue) (x : RunningValue) → x.state ≡ s → Some x ≡ Some r' → r'.state.heard ≡ s.heard
run_state r r' s x is e = ap (λ (y : RunningValue). y.state.heard) (sym (some_same x r' e)) ∙ ap (λ (u : StateValue). u.heard) is

tick_heard : (opening : Opening) (t : Table) (r : RunningValue) (noted : List (Option Noted)) (now : ℕ) (r' : RunningValue) → running_by r noted (ticks_by opening t r noted now) ≡ Some r'
    → r'.state.heard ≡ set.union r.state.heard (dots_issued (ticks_by opening t r noted now).reply)
tick_heard Shut t r noted now r' is = run_state r r' r.state _ refl is ∙ nothing_at_all r.state.heard
tick_heard GiveUp t r noted now r' is = off_run is
tick_heard Opened t r noted now r' is =
    let ops = (sweep_of t r.origin noted now r.state).ops in
    run_state r r' (fold join r.state (meanings ops)) _ refl is ∙ heard_all r.state ops

-- the heard dots of a running node after an accepted event by which it doesn't go off
run_heard : (t : Table) (last : ℕ) (r : RunningValue) (noted : List (Option Noted)) (e : Event) (r' : RunningValue) → refusal_by t last (Some r) e ≡ None → running_by r noted (transition_of t r noted e) ≡ Some r'
    → r'.state.heard ≡ set.union r.state.heard (dots_brought e (transition_of t r noted e).reply)
run_heard t last r noted (Boot now) r' none is = absurd (no none)
  where
    no : Some AlreadyOn ≡ None → ⊥
    no p = cc
run_heard t last r noted Crash r' none is = off_run is
run_heard t last r noted (Commanded c) r' none is = run_state r r' (join r.state _) _ refl is ∙ (heard-join r.state _ ∙ ap (set.union r.state.heard) (one_heard _))
run_heard t last r noted (Tick now) r' none is = tick_heard (opening_at t r now) t r noted now r' is
run_heard t last r noted (Ship to) r' none is = run_state r r' r.state _ refl is ∙ nothing_at_all r.state.heard
run_heard t last r noted (Hear m) r' none is =
    let body = content_of m.body in
    run_state r r' (fold join r.state (brings r.state body)) _ refl is ∙ body_heard r.state body (is_below body r.state) refl
run_heard t last r noted (HearOp o) r' none is =
    let body = meaning_of (o ∷ []) in
    run_state r r' (fold join r.state (brings r.state body)) _ refl is
    ∙ (body_heard r.state body (is_below body r.state) refl ∙ ap (set.union r.state.heard) (one_heard o))

state_there : (running : Option RunningValue) (s : StateValue) → state_of (record { last = 0; running = running }) ≡ Some s → (r : RunningValue) × ((running ≡ Some r) × (r.state ≡ s))
state_there None s e = absurd (no e)
  where
    no : None ≡ Some s → ⊥
    no p = cc
state_there (Some r) s e = (r, (refl, some_same r.state s e))

-- an accepted event is heard exactly
pub hears_exactly : (t : Table) (me : NodeId) (last : ℕ) (running : Option RunningValue) (noted : List (Option Noted)) (e : Event) → refusal_by t last running e ≡ None
    → HearsExactly (record { last = last; running = running }) e (reply_by t me last running noted e) (left_by t me last running noted e)
hears_exactly t me last None noted e none = record {
  each = λ s u was is. absurd (no s was);
}
  where
    no : (s : StateValue) → None ≡ Some s → ⊥
    no s p = cc
hears_exactly t me last (Some r) noted e none = record {
  each = λ s u was is.
      let transition = transition_of t r noted e in
      let next = state_there (running_by r noted transition) u is in
      sym (ap (λ (x : StateValue). x.heard) next.1.1)
      ∙ (run_heard t last r noted e next.0 none next.1.0
      ∙ ap (λ (x : StateValue). set.union x.heard (dots_brought e transition.reply)) (some_same r.state s was));
}
