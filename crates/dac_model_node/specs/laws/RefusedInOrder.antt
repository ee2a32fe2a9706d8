-- Which refusal an event gets, in order. The tests before a refusal fail and its own succeeds, so that the first of them
-- computes to it. Conversely a refusal is returned only for its cause.
use Rattle.std.specs.Prelude.{◌≡◌, ◌⊎◌, ◌↔◌, ℕ, ◌+◌, ◌<◌, ◌≤◌, Bool, true, false, not, ◌||◌, List, [], ◌∷◌, Option, None, Some, refl}
use Rattle.std.proofs.Common.{sym, ap, subst, ◌∙◌, inl, inr, arith}
use Rattle.dac_model_node.specs.laws.Common.{nat_eq, nat_le, IfSome, false_from_ne_true, eq-eqb, false≢true, MAX_INCARNATION, MAX_COUNTER, NodeId, AppId, Origin, IsLive, Table, node_count, app_count, group_of, StateValue, meaning_of, is_below, content_of, Down, Permit, Start, Stop, Drain, Takeover, Message, Event, Boot, Crash, Tick, Ship, Hear, Refusal, Off, AlreadyOn, DeclaredDown, UnknownApp, UnknownNode, OnSelf, NotInList, MomentBack, NotLive, NotForMe, number_of, no_node, no_app, unlisted, not_live, declared_down, NodeValue, RunningValue, too_many_deltas, overflows, is_for, refusal_on, refusal_by, refusal_of, causes_of_event, IsOneOf}
use Rattle.std.proofs.lemmas.Bool.{and_right, or_left, or_right}
use Rattle.dac_messages.specs.declared.event.Event.TheVariants.{Command as Commanded}
use Rattle.dac_model_node.specs.EventRefusals.{refusal_off}
use Rattle.dac_model_node.specs.Refused.{HoldsRunning}
use Rattle.dac_model_node.specs.laws.Refused.{at_least, less, same_node, is_for_is, is_missing, not_live_is, declared_down_is, refused_is}
use Rattle.dac_model_node.specs.RefusedInOrder.{IsBoot, CanIssue, LacksApp, LacksNode, IsUnlisted, IsGone, IsWithSelf, IsMeantFor, Refuses, Accepts, IsStillUp, OfRunning, OffComesFirst, RefusesStrangers, StrangersAreNamed, RefusesItself, OwnIsOnSelf, RefusesMisdirected, OthersAreNotForMe, RefusesEarlierMoments, TimeRuns}

-- ---- tests that fail

-- a test fails if what it tests doesn't hold
failing : {X : Type 0} (b : Bool) → ((b ≡ true) ↔ X) → ¬ X → b ≡ false
failing b is never = false_from_ne_true b (λ e. never (is.0 e))

-- whether a cause of this number is in the list
abbrev has_number : ℕ → List Refusal → Bool
has_number n [] = false
has_number n (x ∷ xs) = nat_eq n (number_of x) || has_number n xs

among : (why : Refusal) (rs : List Refusal) → IsOneOf why rs → has_number (number_of why) rs ≡ true
among why [] i = absurd i
among why (x ∷ xs) (inl same) = or_left (nat_eq (number_of why) (number_of x)) (has_number (number_of why) xs) (eq-eqb (number_of why) (number_of x) (ap number_of same))
among why (x ∷ xs) (inr more) = or_right (nat_eq (number_of why) (number_of x)) (has_number (number_of why) xs) (among why xs more)

-- a node that runs
abbrev here : ℕ → RunningValue → NodeValue
here last r = record { last = last; running = Some r }

-- what holds of a running node by its parts, holds of it
of_running : (P : Table → NodeValue → RunningValue → Type 0) → ((t : Table) (last : ℕ) (r : RunningValue) → P t (here last r) r) → OfRunning P
of_running P each t v r is = subst (λ (o : Option RunningValue). P t (record { last = v.last; running = o }) r) (sym is) (each t v.last r)

module _ (t : Table) (last : ℕ) (r : RunningValue) where
  abbrev me : NodeValue
  me = here last r

  abbrev own : Origin
  own = r.origin

  abbrev s : StateValue
  s = r.state

  up : IsStillUp r → declared_down own s ≡ false
  up live = failing (declared_down own s) (declared_down_is own s) (λ never. never live)

  known_app : (app : AppId) → ¬ (app_count t ≤ app.0) → no_app t app ≡ false
  known_app app = failing (no_app t app) (at_least (app_count t) app.0)

  known_node : (node : NodeId) → ¬ (node_count t ≤ node.0) → no_node t node ≡ false
  known_node node = failing (no_node t node) (at_least (node_count t) node.0)

  listed : (app : AppId) (node : NodeId) → ¬ (group_of t app node ≡ None) → unlisted t app node ≡ false
  listed app node = failing (unlisted t app node) (is_missing (group_of t app node))

  gone : (node : NodeId) → ((inc : ℕ) → ¬ IsLive s.lives node inc) → not_live s node ≡ true
  gone node = (not_live_is s node).1

  -- ---- declared down

  down : (e : Event) → CanIssue e → ¬ IsStillUp r → Refuses t me e DeclaredDown
  down (Commanded (Down node)) can never = let h = (declared_down_is own s).1 never in rw h
  down (Commanded (Permit app node value)) can never = let h = (declared_down_is own s).1 never in rw h
  down (Commanded (Start app node)) can never = let h = (declared_down_is own s).1 never in rw h
  down (Commanded (Stop app node)) can never = let h = (declared_down_is own s).1 never in rw h
  down (Commanded (Drain node value)) can never = let h = (declared_down_is own s).1 never in rw h
  down (Commanded (Takeover app)) can never = let h = (declared_down_is own s).1 never in rw h
  down (Tick now) can never = let h = (declared_down_is own s).1 never in rw h
  down _ can never = absurd can

  -- ---- applications and nodes

  strange_app : (e : Event) → IsStillUp r → LacksApp t e → Refuses t me e UnknownApp
  strange_app (Commanded (Permit app node value)) live lacks = let u = up live in let h = (at_least (app_count t) app.0).1 lacks in rw (u, h)
  strange_app (Commanded (Start app node)) live lacks = let u = up live in let h = (at_least (app_count t) app.0).1 lacks in rw (u, h)
  strange_app (Commanded (Stop app node)) live lacks = let u = up live in let h = (at_least (app_count t) app.0).1 lacks in rw (u, h)
  strange_app (Commanded (Takeover app)) live lacks = let u = up live in let h = (at_least (app_count t) app.0).1 lacks in rw (u, h)
  strange_app _ live lacks = absurd lacks

  strange_node : (e : Event) → (CanIssue e → IsStillUp r) → ¬ LacksApp t e → LacksNode t e → Refuses t me e UnknownNode
  strange_node (Commanded (Down node)) live app lacks = let u = up (live tt) in let h = (at_least (node_count t) node.0).1 lacks in rw (u, h)
  strange_node (Commanded (Permit app node value)) live has lacks = let u = up (live tt) in let a = known_app app has in let h = (at_least (node_count t) node.0).1 lacks in rw (u, a, h)
  strange_node (Commanded (Start app node)) live has lacks = let u = up (live tt) in let a = known_app app has in let h = (at_least (node_count t) node.0).1 lacks in rw (u, a, h)
  strange_node (Commanded (Stop app node)) live has lacks = let u = up (live tt) in let a = known_app app has in let h = (at_least (node_count t) node.0).1 lacks in rw (u, a, h)
  strange_node (Commanded (Drain node value)) live app lacks = let u = up (live tt) in let h = (at_least (node_count t) node.0).1 lacks in rw (u, h)
  strange_node (Ship to) live app lacks = let h = (at_least (node_count t) to.0).1 lacks in rw h
  strange_node _ live app lacks = absurd lacks

  outside : (e : Event) → IsStillUp r → ¬ LacksApp t e → ¬ LacksNode t e → IsUnlisted t own.node e → Refuses t me e NotInList
  outside (Commanded (Permit app node value)) live has there none = let u = up live in let a = known_app app has in let n = known_node node there in let h = (is_missing (group_of t app node)).1 none in rw (u, a, n, h)
  outside (Commanded (Start app node)) live has there none = let u = up live in let a = known_app app has in let n = known_node node there in let h = (is_missing (group_of t app node)).1 none in rw (u, a, n, h)
  outside (Commanded (Stop app node)) live has there none = let u = up live in let a = known_app app has in let n = known_node node there in let h = (is_missing (group_of t app node)).1 none in rw (u, a, n, h)
  outside (Commanded (Takeover app)) live has there none = let u = up live in let a = known_app app has in let h = (is_missing (group_of t app own.node)).1 none in rw (u, a, h)
  outside _ live has there none = absurd none

  departed : (e : Event) → CanIssue e → IsStillUp r → ¬ LacksApp t e → ¬ LacksNode t e → ¬ IsUnlisted t own.node e → IsGone r e → Refuses t me e NotLive
  departed (Commanded (Down node)) can live has there in_list none =
      let u = up live in
      let n = known_node node there in
      let o : nat_eq node.0 own.node.0 ≡ false = failing (nat_eq node.0 own.node.0) (same_node node own.node) (λ same. none own.inc (subst (λ (m : NodeId). IsLive s.lives m own.inc) (sym same) live)) in
      let h = gone node none in
      rw (u, n, o, h)
  departed (Commanded (Permit app node value)) can live has there in_list none = let u = up live in let a = known_app app has in let n = known_node node there in let l = listed app node in_list in let h = gone node none in rw (u, a, n, l, h)
  departed (Commanded (Start app node)) can live has there in_list none = let u = up live in let a = known_app app has in let n = known_node node there in let l = listed app node in_list in let h = gone node none in rw (u, a, n, l, h)
  departed (Commanded (Stop app node)) can live has there in_list none = let u = up live in let a = known_app app has in let n = known_node node there in let l = listed app node in_list in let h = gone node none in rw (u, a, n, l, h)
  departed (Commanded (Drain node value)) can live has there in_list none = let u = up live in let n = known_node node there in let h = gone node none in rw (u, n, h)
  departed (Ship to) can live has there in_list none = absurd can
  departed _ can live has there in_list none = absurd none

  -- ---- messages and ticks

  with_self : (e : Event) → (CanIssue e → IsStillUp r) → ¬ LacksNode t e → IsWithSelf own.node e → Refuses t me e OnSelf
  with_self (Hear m) live there is = let h = (same_node m.from.node own.node).1 is in rw h
  with_self (Ship to) live there is = let n = known_node to there in let h = (same_node to own.node).1 is in rw (n, h)
  with_self (Commanded (Down node)) live there is = let u = up (live tt) in let n = known_node node there in let h = (same_node node own.node).1 is in rw (u, n, h)
  with_self _ live there is = absurd is

  to_meant : (only : Option ℕ) → IfSome only (λ inc. inc ≡ own.inc) → (only ≡ None) ⊎ (only ≡ Some own.inc)
  to_meant None is = inl refl
  to_meant (Some inc) is = inr (ap Some is)

  from_meant : (only : Option ℕ) → (only ≡ None) ⊎ (only ≡ Some own.inc) → IfSome only (λ inc. inc ≡ own.inc)
  from_meant only (inl none) = subst (λ (o : Option ℕ). IfSome o (λ inc. inc ≡ own.inc)) (sym none) tt
  from_meant only (inr some) = subst (λ (o : Option ℕ). IfSome o (λ inc. inc ≡ own.inc)) (sym some) refl

  other : (m : Message) → ¬ (m.from.node ≡ own.node) → ¬ IsMeantFor own m → Refuses t me (Hear m) NotForMe
  other m foreign not_meant =
      let f = failing (nat_eq m.from.node.0 own.node.0) (same_node m.from.node own.node) foreign in
      let h = failing (is_for own m) (is_for_is own m) (λ is. not_meant (is.0, to_meant m.only is.1)) in
      rw (f, h)

  left : r.kept.count < MAX_COUNTER → too_many_deltas r 1 ≡ false
  left room = failing (too_many_deltas r 1) (less MAX_COUNTER (r.kept.count + 1)) (λ (more : MAX_COUNTER < r.kept.count + 1). omega (arith, more, room))

  fits : (body : StateValue) → r.kept.count < MAX_COUNTER → overflows r body ≡ false
  fits body room = and_right (not (is_below body s)) (too_many_deltas r 1) (left room)

  meant : (m : Message) → ¬ (m.from.node ≡ own.node) → IsMeantFor own m → r.kept.count < MAX_COUNTER → Accepts t me (Hear m)
  meant m foreign is room =
      let f = failing (nat_eq m.from.node.0 own.node.0) (same_node m.from.node own.node) foreign in
      let h = (is_for_is own m).1 (is.0, from_meant m.only is.1) in
      let l = fits (content_of m.body) room in
      rw (f, h, l)

  back : (now : ℕ) → IsStillUp r → now < r.moments.last → Refuses t me (Tick now) MomentBack
  back now live earlier = let u = up live in let h = (less now r.moments.last).1 earlier in rw (u, h)

  -- ---- each refusal for its cause

  only_app : (e : Event) → Refuses t me e UnknownApp → LacksApp t e
  only_app e is = of_event e (refused_is t me e UnknownApp is).holds
    where
      of_event : (e : Event) → HoldsRunning t r e UnknownApp → LacksApp t e
      of_event (Commanded (Permit app node value)) h = h
      of_event (Commanded (Start app node)) h = h
      of_event (Commanded (Stop app node)) h = h
      of_event (Commanded (Takeover app)) h = h
      of_event _ h = absurd h

  only_node : (e : Event) → Refuses t me e UnknownNode → LacksNode t e
  only_node e is = of_event e (refused_is t me e UnknownNode is).holds
    where
      of_event : (e : Event) → HoldsRunning t r e UnknownNode → LacksNode t e
      of_event (Commanded (Down node)) h = h
      of_event (Commanded (Permit app node value)) h = h
      of_event (Commanded (Start app node)) h = h
      of_event (Commanded (Stop app node)) h = h
      of_event (Commanded (Drain node value)) h = h
      of_event (Ship to) h = h
      of_event _ h = absurd h

  only_listed : (e : Event) → Refuses t me e NotInList → IsUnlisted t own.node e
  only_listed e is = of_event e (refused_is t me e NotInList is).holds
    where
      of_event : (e : Event) → HoldsRunning t r e NotInList → IsUnlisted t own.node e
      of_event (Commanded (Permit app node value)) h = h
      of_event (Commanded (Start app node)) h = h
      of_event (Commanded (Stop app node)) h = h
      of_event (Commanded (Takeover app)) h = h
      of_event _ h = absurd h

  only_live : (e : Event) → Refuses t me e NotLive → CanIssue e × IsGone r e
  only_live e is = of_event e (refused_is t me e NotLive is).holds
    where
      of_event : (e : Event) → HoldsRunning t r e NotLive → CanIssue e × IsGone r e
      of_event (Commanded (Down node)) h = (tt, h)
      of_event (Commanded (Permit app node value)) h = (tt, h)
      of_event (Commanded (Start app node)) h = (tt, h)
      of_event (Commanded (Stop app node)) h = (tt, h)
      of_event (Commanded (Drain node value)) h = (tt, h)
      of_event _ h = absurd h

  only_self : (e : Event) → Refuses t me e OnSelf → IsWithSelf own.node e
  only_self e is = of_event e (refused_is t me e OnSelf is).holds
    where
      of_event : (e : Event) → HoldsRunning t r e OnSelf → IsWithSelf own.node e
      of_event (Hear m) h = h
      of_event (Ship to) h = h
      of_event (Commanded (Down node)) h = h
      of_event _ h = absurd h

  not_back : (now : ℕ) → r.moments.last ≤ now → ¬ Refuses t me (Tick now) MomentBack
  not_back now later is = let earlier : now < r.moments.last = (refused_is t me (Tick now) MomentBack is).holds in omega (arith, earlier, later)

  only_down : (e : Event) → Refuses t me e DeclaredDown → CanIssue e × (¬ IsStillUp r)
  only_down e is = let why = refused_is t me e DeclaredDown is in (of_event e (among DeclaredDown (causes_of_event e) why.can), why.holds)
    where
      of_event : (e : Event) → has_number (number_of DeclaredDown) (causes_of_event e) ≡ true → CanIssue e
      of_event (Commanded c) h = tt
      of_event (Tick now) h = tt
      of_event (Boot now) h = absurd (false≢true h)
      of_event _ h = absurd (false≢true h)

-- ---- nodes that are off, and boots

off_event : (last : ℕ) (e : Event) → ¬ IsBoot e → refusal_off last e ≡ Some Off
off_event last (Boot now) never = absurd (never tt)
off_event last Crash never = refl
off_event last _ never = refl

boot_off : (last : ℕ) (e : Event) → IsBoot e → last < MAX_INCARNATION → refusal_off last e ≡ None
boot_off last (Boot now) is room = let h = failing (nat_le MAX_INCARNATION last) (at_least MAX_INCARNATION last) (λ (full : MAX_INCARNATION ≤ last). omega (arith, full, room)) in rw h
boot_off last _ is room = absurd is

boot_on : (t : Table) (r : RunningValue) (e : Event) → IsBoot e → refusal_on t r e ≡ Some AlreadyOn
boot_on t r (Boot now) is = refl
boot_on t r _ is = absurd is

-- ---- the clauses

pub off_comes_first : OffComesFirst
off_comes_first t v = record {
  off = λ is e never. at e is ∙ off_event v.last e never;
  only_off = λ e refused. (refused_is t v e Off refused).holds;
  boot = λ is e boots room. at e is ∙ boot_off v.last e boots room;
  on = λ r is e boots. at e is ∙ boot_on t r e boots;
  crash = λ r is. at Crash is;
  down = λ r is e can never. at e is ∙ down t v.last r e can never;
  only_down = λ r is e refused. only_down t v.last r e (sym (at e is) ∙ refused);
}
  where
    at : (e : Event) {o : Option RunningValue} → v.running ≡ o → refusal_of t v e ≡ refusal_by t v.last o e
    at e is = ap (λ (o : Option RunningValue). refusal_by t v.last o e) is

pub strangers_are_named : StrangersAreNamed
strangers_are_named = of_running RefusesStrangers (λ t last r. record {
  app = strange_app t last r;
  node = strange_node t last r;
  listed = outside t last r;
  live = departed t last r;
  only_app = only_app t last r;
  only_node = only_node t last r;
  only_listed = only_listed t last r;
  only_live = only_live t last r;
})

pub own_is_on_self : OwnIsOnSelf
own_is_on_self = of_running RefusesItself (λ t last r. record { always = with_self t last r; only = only_self t last r })

pub others_are_not_for_me : OthersAreNotForMe
others_are_not_for_me = of_running RefusesMisdirected (λ t last r. record {
  other = other t last r;
  own = meant t last r;
  handed = λ o room. let l = fits t last r (meaning_of (o ∷ [])) room in rw l;
})

pub time_runs : TimeRuns
time_runs = of_running RefusesEarlierMoments (λ t last r. record { back = back t last r; only = not_back t last r })
