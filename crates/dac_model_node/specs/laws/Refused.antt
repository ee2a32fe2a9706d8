-- The table of causes refuses for the least cause that holds, because each test is its cause in words, and the causes
-- are in the order of their numbers.
use Rattle.std.specs.Prelude.{◌≡◌, ◌↔◌, ◌⊎◌, ℕ, ◌+◌, ◌<◌, ◌≤◌, Bool, true, false, not, ◌&&◌, ◌||◌, cond, List, [], ◌∷◌, ◌++◌, length, Option, None, Some, refl}
use Rattle.std.proofs.Common.{sym, ap, subst, ◌∙◌, inl, inr, arith}
use Rattle.dac_model_node.specs.laws.Common.{nat_eq, nat_le, nat_lt, is_some, unwrap_or, IfSome, option_map_or, false≢true, and_parts, le-leb, leb-true, lt-ltb, ltb-true, eqb-true, eq-eqb, MAX_INCARNATION, MAX_COUNTER, NodeId, Origin, Table, node_count, app_count, group_of, IsLive, StateValue, IsBelow, meaning_of, is_below, is_below-is, is_up_to_date, content_of, is_up, runner_of, up_is, Command, Down, Permit, Start, Stop, Drain, Takeover, Message, Event, Boot, Crash, Tick, Ship, Hear, HearOp, Refusal, Off, AlreadyOn, DeclaredDown, UnknownApp, UnknownNode, OnSelf, NotInList, MomentBack, NotLive, NotForMe, DotsUsedUp, NoMemory, number_of, first, refusal_of_command, no_node, no_app, unlisted, not_live, used_up, declared_down, runs_earlier, used_up_is, NodeValue, RunningValue, needed, too_few_left, too_many_deltas, overflows, otherwise, is_for, refusal_by, refusal_of, causes_of_event, IsOneOf}
use Rattle.std.proofs.lemmas.Bool.{true≢false}
use Rattle.dac_base.specs.declared.limits.TheConstants.{MAX_REPLACED}
use Rattle.dac_origins.specs.Dots.{IsUsedUp}
use Rattle.dac_chains.specs.Lives.{live_at}
use Rattle.dac_chains.specs.laws.Live.{live_is}
use Rattle.dac_wishes.specs.WishesValue.{is_wished}
use Rattle.dac_wishes.specs.laws.Wished.{is_wished-some}
use Rattle.dac_meaning.specs.StateValue.{wishes_of}
use Rattle.dac_decide.specs.Placement.{is_eligible, runs_at}
use Rattle.dac_decide.specs.laws.Tests.{eligible_is, runs_is}
use Rattle.dac_messages.specs.declared.event.Event.TheVariants.{Command as Commanded}
use Rattle.dac_events.specs.declared.refusal.Refusal.TheVariants.{NotStarted, NotEligible, NotRunning, AlreadyHolder, LowerPriority, UpToDate, TooManyDots, TermsUsedUp, IncarnationsUsedUp}
use Rattle.dac_commands.specs.Causes.{not_wished, too_many, terms_used_up}
use Rattle.dac_commands.specs.Commands.{live_key, live_origin, standing_starts, standing_permits, standing_drains}
use Rattle.dac_commands.specs.laws.Terms.{terms_used_up_is}
use Rattle.dac_model_node.specs.laws.Positions.{up_to_date_is}
use Rattle.dac_model_node.specs.laws.Tests.{not_running_is, runs_earlier_is, too_few_is, lacks_for_tick}
use Rattle.dac_model_node.specs.Refused.{Holds, LacksNumbers, IsFor, NoneHolds, IsLeastOf, IsFree, IsRefused, IsAnsweredBy, NeverRefusesForMemory}

-- ---- the first test that holds is that of the least cause

-- the numbers rise, and the first is above n
abbrev rises : ℕ → List Refusal → Bool
rises n [] = true
rises n (r ∷ rs) = nat_lt n (number_of r) && rises (number_of r) rs

above : (n : ℕ) (rs : List Refusal) → rises n rs ≡ true → (o : Refusal) → IsOneOf o rs → n < number_of o
above n [] h o i = elim i [ ]
above n (r ∷ rs) h o (inl is) =
    let less : n < number_of r = ltb-true n (number_of r) (and_parts (nat_lt n (number_of r)) (rises (number_of r) rs) h).0 in
    subst (λ x. n < number_of x) (sym is) less
above n (r ∷ rs) h o (inr i) =
    let less : n < number_of r = ltb-true n (number_of r) (and_parts (nat_lt n (number_of r)) (rises (number_of r) rs) h).0 in
    let more : number_of r < number_of o = above (number_of r) rs (and_parts (nat_lt n (number_of r)) (rises (number_of r) rs) h).1 o i in
    omega arith

module _ (H : Refusal → Type 0) where
  -- each test is its cause in words, if those before it fail
  abbrev Tests : List (Bool × Refusal) → List Refusal → Type 0
  Tests [] [] = Unit {0}
  Tests [] (r ∷ rs) = ⊥
  Tests (c ∷ cs) [] = ⊥
  Tests (c ∷ cs) (r ∷ rs) = (c.1 ≡ r) × (((c.0 ≡ true) ↔ H r) × (c.0 ≡ false → Tests cs rs))

  -- this refusal is right for these causes
  abbrev IsRight : List Refusal → Option Refusal → Type 0
  IsRight rs None = NoneHolds H rs
  IsRight rs (Some why) = IsLeastOf H rs why

  one_more : (r : Refusal) (rs : List Refusal) → ¬ H r → (answer : Option Refusal) → IsRight rs answer → IsRight (r ∷ rs) answer
  one_more r rs fails None none = λ why i h. elim i [
    | inl is ↦ fails (subst H is h)
    | inr rest ↦ none why rest h
  ]
  one_more r rs fails (Some why) is = record {
    can = inr is.can;
    holds = is.holds;
    least = λ o i h. elim i [
      | inl same ↦ absurd (fails (subst H same h))
      | inr rest ↦ is.least o rest h
    ];
  }

  at_head : (r : Refusal) (rs : List Refusal) → rises (number_of r) rs ≡ true → H r → IsLeastOf H (r ∷ rs) r
  at_head r rs h holds = record {
    can = inl refl;
    holds = holds;
    least = λ o i _. elim i [
      | inl same ↦ let e : number_of o ≡ number_of r = ap number_of same in omega arith
      | inr rest ↦ let less : number_of r < number_of o = above (number_of r) rs h o rest in omega arith
    ];
  }

  first_is : (n : ℕ) (cs : List (Bool × Refusal)) (rs : List Refusal) → rises n rs ≡ true → Tests cs rs → IsRight rs (first cs)
  first_is n [] [] h t = λ why i. elim i [ ]
  first_is n [] (r ∷ rs) h t = absurd t
  first_is n (c ∷ cs) [] h t = absurd t
  first_is n (c ∷ cs) (r ∷ rs) h t =
      let rest = (and_parts (nat_lt n (number_of r)) (rises (number_of r) rs) h).1 in
      elim c.0 as (λ b. c.0 ≡ b → IsRight (r ∷ rs) (cond b (Some c.1) (first cs))) [
        | true ↦ λ e. subst (λ w. IsLeastOf H (r ∷ rs) w) (sym t.0) (at_head r rs rest (t.1.0.0 e))
        | false ↦ λ e. one_more r rs (λ holds. true≢false (sym (t.1.0.1 holds) ∙ e)) (first cs) (first_is (number_of r) cs rs rest (t.1.1 e))
      ] refl

-- ---- each test in words

pub at_least : (a b : ℕ) → (nat_le a b ≡ true) ↔ (a ≤ b)
at_least a b = (leb-true a b, le-leb a b)

pub less : (a b : ℕ) → (nat_lt a b ≡ true) ↔ (a < b)
less a b = (ltb-true a b, lt-ltb a b)

fails : {X : Type 0} (b : Bool) → ((b ≡ true) ↔ X) → (not b ≡ true) ↔ (¬ X)
fails true e = (λ no. absurd (false≢true no), λ no. absurd (no (e.0 refl)))
fails false e = (λ _ x. false≢true (e.1 x), λ _. refl)

pub same_node : (m n : NodeId) → (nat_eq m.0 n.0 ≡ true) ↔ (m ≡ n)
same_node m n = (λ e. let number = eqb-true m.0 n.0 e in λ i. record { 0 = number i }, λ e. eq-eqb m.0 n.0 (ap (λ (x : NodeId). x.0) e))

pub is_for_is : (own : Origin) (m : Message) → (is_for own m ≡ true) ↔ IsFor own m
is_for_is own m = (
  λ e. let both = and_parts (nat_eq m.to.0 own.node.0) (for_all m.only) e in ((same_node m.to own.node).0 both.0, only_if m.only both.1),
  λ is. and_both ((same_node m.to own.node).1 is.0) (if_only m.only is.1),
)
  where
    for_all : Option ℕ → Bool
    for_all only = option_map_or (λ inc. nat_eq inc own.inc) only true

    only_if : (only : Option ℕ) → for_all only ≡ true → IfSome only (λ inc. inc ≡ own.inc)
    only_if None e = tt
    only_if (Some inc) e = eqb-true inc own.inc e

    if_only : (only : Option ℕ) → IfSome only (λ inc. inc ≡ own.inc) → for_all only ≡ true
    if_only None is = refl
    if_only (Some inc) is = eq-eqb inc own.inc is

    and_both : {a b : Bool} → a ≡ true → b ≡ true → (a && b) ≡ true
    and_both {a} {b} p q = λ i. p i && q i

either : {A B : Type 0} (a b : Bool) → ((a ≡ true) ↔ A) → ((b ≡ true) ↔ B) → ((a || b) ≡ true) ↔ (A ⊎ B)
either {A} {B} true b p q = (λ _. inl (p.0 refl), λ _. refl)
either {A} {B} false b p q = (
  λ e. inr (q.0 e),
  λ h. elim h [
    | inl x ↦ absurd (false≢true (p.1 x))
    | inr y ↦ q.1 y
  ],
)

both : {A B : Type 0} (a b : Bool) → ((a ≡ true) ↔ A) → ((b ≡ true) ↔ B) → ((a && b) ≡ true) ↔ (A × B)
both {A} {B} true b p q = (λ e. (p.0 refl, q.0 e), λ h. q.1 h.1)
both {A} {B} false b p q = (λ e. absurd (false≢true e), λ h. absurd (false≢true (p.1 h.0)))

one_more_cause : (x : Bool) (r : Refusal) (p q other : Option Refusal) → otherwise p other ≡ q → otherwise (cond x (Some r) p) other ≡ cond x (Some r) q
one_more_cause true r p q other is = refl
one_more_cause false r p q other is = is

-- two lists of causes, of which the second is only the last cause of the first, are one list
one_list : (cs : List (Bool × Refusal)) (a b : Bool) (why : Refusal) → otherwise (first (cs ++ (a, why) ∷ [])) (first ((b, why) ∷ [])) ≡ first (cs ++ (a || b, why) ∷ [])
one_list [] true b why = refl
one_list [] false b why = refl
one_list (c ∷ cs) a b why = one_more_cause c.0 c.1 (first (cs ++ (a, why) ∷ [])) (first (cs ++ (a || b, why) ∷ [])) (first ((b, why) ∷ [])) (one_list cs a b why)

pub is_missing : {X : Type 0} (o : Option X) → (not (is_some o) ≡ true) ↔ (o ≡ None)
is_missing None = (λ _. refl, λ _. refl)
is_missing (Some x) = (λ e. absurd (false≢true e), λ e. absurd (true≢false (ap is_some e)))

pub not_live_is : (s : StateValue) (node : NodeId) → (not_live s node ≡ true) ↔ ((inc : ℕ) → ¬ IsLive s.lives node inc)
not_live_is s node = (
  λ e inc up. false≢true (sym (ap is_some ((is_missing (live_at s.lives node)).0 e)) ∙ ap is_some ((live_is s.lives node inc).1 up)),
  λ none. by_live (live_at s.lives node) refl none,
)
  where
    by_live : (o : Option ℕ) → live_at s.lives node ≡ o → ((inc : ℕ) → ¬ IsLive s.lives node inc) → not (is_some o) ≡ true
    by_live None e none = refl
    by_live (Some inc) e none = absurd (none inc ((live_is s.lives node inc).0 e))

pub declared_down_is : (own : Origin) (s : StateValue) → (declared_down own s ≡ true) ↔ (¬ IsLive s.lives own.node own.inc)
declared_down_is own s = fails (is_up s own) (up_is s own)

is_on : {X : Type 0} (x : X) → (false ≡ true) ↔ (◌≡◌ {A = Option X} (Some x) None)
is_on x = (λ e. absurd (false≢true e), λ e. absurd (true≢false (ap is_some e)))

-- ---- the table

module _ (t : Table) (last : ℕ) (r : RunningValue) where
  abbrev here : NodeValue
  here = record { last = last; running = Some r }

  abbrev own : Origin
  own = r.origin

  abbrev s : StateValue
  s = r.state

  -- the counters of operations or the numbers of deltas are used up
  abbrev used : ((used_up s own || too_many_deltas r 1) ≡ true) ↔ (IsUsedUp s.known own ⊎ LacksNumbers r 1)
  used = either (used_up s own) (too_many_deltas r 1) (used_up_is s.known own) (less MAX_COUNTER (r.kept.count + 1))

  -- an incoming state would need a number, and none is left
  overflown : (body : StateValue) → (overflows r body ≡ true) ↔ ((¬ IsBelow body s) × LacksNumbers r 1)
  overflown body = both (not (is_below body s)) (too_many_deltas r 1) (fails (is_below body s) ((is_below-is body s).1, (is_below-is body s).0)) (less MAX_COUNTER (r.kept.count + 1))

  -- the last cause of a command is that counters or numbers are used up
  obeys : (c : Command) (cs : List (Bool × Refusal)) → refusal_of_command t own s c ≡ first (cs ++ (used_up s own, DotsUsedUp) ∷ [])
      → IsRight (Holds t here (Commanded c)) (causes_of_event (Commanded c)) (first (cs ++ (used_up s own || too_many_deltas r 1, DotsUsedUp) ∷ [])) → IsRight (Holds t here (Commanded c)) (causes_of_event (Commanded c)) (refusal_by t last (Some r) (Commanded c))
  obeys c cs is right = subst (IsRight (Holds t here (Commanded c)) (causes_of_event (Commanded c))) (sym (ap (λ x. otherwise x (first ((too_many_deltas r 1, DotsUsedUp) ∷ []))) is ∙ one_list cs (used_up s own) (too_many_deltas r 1) DotsUsedUp)) right

  on_command : (c : Command) → IsRight (Holds t here (Commanded c)) (causes_of_event (Commanded c)) (refusal_by t last (Some r) (Commanded c))
  on_command (Down node) = obeys (Down node) ((declared_down own s, DeclaredDown) ∷ (no_node t node, UnknownNode) ∷ (nat_eq node.0 own.node.0, OnSelf) ∷ (not_live s node, NotLive) ∷ []) refl (first_is (Holds t here (Commanded (Down node))) 0 ((false, Off) ∷ (declared_down own s, DeclaredDown) ∷ (no_node t node, UnknownNode) ∷ (nat_eq node.0 own.node.0, OnSelf) ∷ (not_live s node, NotLive) ∷ (used_up s own || too_many_deltas r 1, DotsUsedUp) ∷ []) (causes_of_event (Commanded (Down node))) refl
      (refl, (is_on r, λ _. (refl, (declared_down_is own s, λ _. (refl, (at_least (node_count t) node.0, λ _. (refl, (same_node node own.node, λ _. (refl, (not_live_is s node, λ _. (refl, (used, λ _. tt)))))))))))))
  on_command (Permit app node value) = obeys (Permit app node value) ((declared_down own s, DeclaredDown) ∷ (no_app t app, UnknownApp) ∷ (no_node t node, UnknownNode) ∷ (unlisted t app node, NotInList) ∷ (not_live s node, NotLive) ∷ (too_many (length (standing_permits s (live_key s app node))), TooManyDots) ∷ []) refl (first_is (Holds t here (Commanded (Permit app node value))) 0 ((false, Off) ∷ (declared_down own s, DeclaredDown) ∷ (no_app t app, UnknownApp) ∷ (no_node t node, UnknownNode) ∷ (unlisted t app node, NotInList) ∷ (not_live s node, NotLive) ∷ (too_many (length (standing_permits s (live_key s app node))), TooManyDots) ∷ (used_up s own || too_many_deltas r 1, DotsUsedUp) ∷ []) (causes_of_event (Commanded (Permit app node value))) refl
      (refl, (is_on r, λ _. (refl, (declared_down_is own s, λ _. (refl, (at_least (app_count t) app.0, λ _. (refl, (at_least (node_count t) node.0, λ _. (refl, (is_missing (group_of t app node), λ _. (refl, (not_live_is s node, λ _. (refl, (less MAX_REPLACED (length (standing_permits s (live_key s app node))), λ _. (refl, (used, λ _. tt)))))))))))))))))
  on_command (Start app node) = obeys (Start app node) ((declared_down own s, DeclaredDown) ∷ (no_app t app, UnknownApp) ∷ (no_node t node, UnknownNode) ∷ (unlisted t app node, NotInList) ∷ (not_live s node, NotLive) ∷ (too_many (length (standing_starts s (live_key s app node))), TooManyDots) ∷ []) refl (first_is (Holds t here (Commanded (Start app node))) 0 ((false, Off) ∷ (declared_down own s, DeclaredDown) ∷ (no_app t app, UnknownApp) ∷ (no_node t node, UnknownNode) ∷ (unlisted t app node, NotInList) ∷ (not_live s node, NotLive) ∷ (too_many (length (standing_starts s (live_key s app node))), TooManyDots) ∷ (used_up s own || too_many_deltas r 1, DotsUsedUp) ∷ []) (causes_of_event (Commanded (Start app node))) refl
      (refl, (is_on r, λ _. (refl, (declared_down_is own s, λ _. (refl, (at_least (app_count t) app.0, λ _. (refl, (at_least (node_count t) node.0, λ _. (refl, (is_missing (group_of t app node), λ _. (refl, (not_live_is s node, λ _. (refl, (less MAX_REPLACED (length (standing_starts s (live_key s app node))), λ _. (refl, (used, λ _. tt)))))))))))))))))
  on_command (Stop app node) = obeys (Stop app node) ((declared_down own s, DeclaredDown) ∷ (no_app t app, UnknownApp) ∷ (no_node t node, UnknownNode) ∷ (unlisted t app node, NotInList) ∷ (not_live s node, NotLive) ∷ (not_wished s (live_key s app node), NotStarted) ∷ (too_many (length (standing_starts s (live_key s app node))), TooManyDots) ∷ []) refl (first_is (Holds t here (Commanded (Stop app node))) 0 ((false, Off) ∷ (declared_down own s, DeclaredDown) ∷ (no_app t app, UnknownApp) ∷ (no_node t node, UnknownNode) ∷ (unlisted t app node, NotInList) ∷ (not_live s node, NotLive) ∷ (not_wished s (live_key s app node), NotStarted) ∷ (too_many (length (standing_starts s (live_key s app node))), TooManyDots) ∷ (used_up s own || too_many_deltas r 1, DotsUsedUp) ∷ []) (causes_of_event (Commanded (Stop app node))) refl
      (refl, (is_on r, λ _. (refl, (declared_down_is own s, λ _. (refl, (at_least (app_count t) app.0, λ _. (refl, (at_least (node_count t) node.0, λ _. (refl, (is_missing (group_of t app node), λ _. (refl, (not_live_is s node, λ _. (refl, (fails (is_wished (live_key s app node) (wishes_of s)) (is_wished-some (live_key s app node) (wishes_of s)), λ _. (refl, (less MAX_REPLACED (length (standing_starts s (live_key s app node))), λ _. (refl, (used, λ _. tt)))))))))))))))))))
  on_command (Drain node value) = obeys (Drain node value) ((declared_down own s, DeclaredDown) ∷ (no_node t node, UnknownNode) ∷ (not_live s node, NotLive) ∷ (too_many (length (standing_drains s (live_origin s node))), TooManyDots) ∷ []) refl (first_is (Holds t here (Commanded (Drain node value))) 0 ((false, Off) ∷ (declared_down own s, DeclaredDown) ∷ (no_node t node, UnknownNode) ∷ (not_live s node, NotLive) ∷ (too_many (length (standing_drains s (live_origin s node))), TooManyDots) ∷ (used_up s own || too_many_deltas r 1, DotsUsedUp) ∷ []) (causes_of_event (Commanded (Drain node value))) refl
      (refl, (is_on r, λ _. (refl, (declared_down_is own s, λ _. (refl, (at_least (node_count t) node.0, λ _. (refl, (not_live_is s node, λ _. (refl, (less MAX_REPLACED (length (standing_drains s (live_origin s node))), λ _. (refl, (used, λ _. tt)))))))))))))
  on_command (Takeover app) = obeys (Takeover app) ((declared_down own s, DeclaredDown) ∷ (no_app t app, UnknownApp) ∷ (unlisted t app own.node, NotInList) ∷ (not (is_eligible t s app own.node), NotEligible) ∷ (not (is_some (runner_of t s app)), NotRunning) ∷ (runs_at t s app own.node, AlreadyHolder) ∷ (runs_earlier t s app own.node, LowerPriority) ∷ (terms_used_up s app, TermsUsedUp) ∷ []) refl (first_is (Holds t here (Commanded (Takeover app))) 0 ((false, Off) ∷ (declared_down own s, DeclaredDown) ∷ (no_app t app, UnknownApp) ∷ (unlisted t app own.node, NotInList) ∷ (not (is_eligible t s app own.node), NotEligible) ∷ (not (is_some (runner_of t s app)), NotRunning) ∷ (runs_at t s app own.node, AlreadyHolder) ∷ (runs_earlier t s app own.node, LowerPriority) ∷ (terms_used_up s app, TermsUsedUp) ∷ (used_up s own || too_many_deltas r 1, DotsUsedUp) ∷ []) (causes_of_event (Commanded (Takeover app))) refl
      (refl, (is_on r, λ _. (refl, (declared_down_is own s, λ _. (refl, (at_least (app_count t) app.0, λ _. (refl, (is_missing (group_of t app own.node), λ _. (refl, (fails (is_eligible t s app own.node) (eligible_is t s app own.node), λ _. (refl, (not_running_is t s app, λ _. (refl, (runs_is t s app own.node, λ _. (refl, (runs_earlier_is t s app own.node, λ _. (refl, (terms_used_up_is s app, λ _. (refl, (used, λ _. tt)))))))))))))))))))))

  on_event : (e : Event) → IsRight (Holds t here e) (causes_of_event e) (refusal_by t last (Some r) e)
  on_event (Boot now) = first_is (Holds t here (Boot now)) 0 ((true, AlreadyOn) ∷ (false, IncarnationsUsedUp) ∷ []) (causes_of_event (Boot now)) refl
      (refl, ((λ _. tt, λ _. refl), λ off. absurd (true≢false off)))
  on_event Crash = first_is (Holds t here Crash) 0 ((false, Off) ∷ []) (causes_of_event Crash) refl (refl, (is_on r, λ _. tt))
  on_event (Commanded c) = on_command c
  on_event (Tick now) =
      let left = either (too_few_left t s own) (too_many_deltas r (needed t)) (too_few_is t s own) (less MAX_COUNTER (r.kept.count + needed t)) in
      let lacks = lacks_for_tick r (app_count t) in
      first_is (Holds t here (Tick now)) 0 ((false, Off) ∷ (declared_down own s, DeclaredDown) ∷ (nat_lt now r.moments.last, MomentBack) ∷ (too_few_left t s own || too_many_deltas r (needed t), DotsUsedUp) ∷ []) (causes_of_event (Tick now)) refl
      (refl, (is_on r, λ _. (refl, (declared_down_is own s, λ _. (refl, (less now r.moments.last, λ _. (refl, ((λ e. lacks.0 (left.0 e), λ h. left.1 (lacks.1 h)), λ _. tt))))))))
  on_event (Ship to) = first_is (Holds t here (Ship to)) 0 ((false, Off) ∷ (no_node t to, UnknownNode) ∷ (nat_eq to.0 own.node.0, OnSelf) ∷ (is_up_to_date r.peers s r.kept.base r.kept.count to, UpToDate) ∷ []) (causes_of_event (Ship to)) refl
      (refl, (is_on r, λ _. (refl, (at_least (node_count t) to.0, λ _. (refl, (same_node to own.node, λ _. (refl, (up_to_date_is r to, λ _. tt))))))))
  on_event (Hear m) = first_is (Holds t here (Hear m)) 0 ((false, Off) ∷ (nat_eq m.from.node.0 own.node.0, OnSelf) ∷ (not (is_for own m), NotForMe) ∷ (overflows r (content_of m.body), DotsUsedUp) ∷ []) (causes_of_event (Hear m)) refl
      (refl, (is_on r, λ _. (refl, (same_node m.from.node own.node, λ _. (refl, (fails (is_for own m) (is_for_is own m), λ _. (refl, (overflown (content_of m.body), λ _. tt))))))))
  on_event (HearOp o) = first_is (Holds t here (HearOp o)) 0 ((false, Off) ∷ (overflows r (meaning_of (o ∷ [])), DotsUsedUp) ∷ []) (causes_of_event (HearOp o)) refl
      (refl, (is_on r, λ _. (refl, (overflown (meaning_of (o ∷ [])), λ _. tt))))

module _ (t : Table) (last : ℕ) where
  abbrev gone : NodeValue
  gone = record { last = last; running = None }

  off_first : (e : Event) (rs : List Refusal) → rises (number_of Off) rs ≡ true → IsLeastOf (Holds t gone e) (Off ∷ rs) Off
  off_first e rs h = at_head (Holds t gone e) Off rs h refl

  off_event : (e : Event) → IsRight (Holds t gone e) (causes_of_event e) (refusal_by t last None e)
  off_event (Boot now) = first_is (Holds t gone (Boot now)) 0 ((false, AlreadyOn) ∷ (nat_le MAX_INCARNATION last, IncarnationsUsedUp) ∷ []) (causes_of_event (Boot now)) refl
      (refl, ((λ e. absurd (false≢true e), λ e. absurd e), λ _. (refl, (at_least MAX_INCARNATION last, λ _. tt))))
  off_event Crash = off_first Crash [] refl
  off_event (Commanded (Down node)) = off_first (Commanded (Down node)) (DeclaredDown ∷ UnknownNode ∷ OnSelf ∷ NotLive ∷ DotsUsedUp ∷ []) refl
  off_event (Commanded (Permit app node value)) = off_first (Commanded (Permit app node value)) (DeclaredDown ∷ UnknownApp ∷ UnknownNode ∷ NotInList ∷ NotLive ∷ TooManyDots ∷ DotsUsedUp ∷ []) refl
  off_event (Commanded (Start app node)) = off_first (Commanded (Start app node)) (DeclaredDown ∷ UnknownApp ∷ UnknownNode ∷ NotInList ∷ NotLive ∷ TooManyDots ∷ DotsUsedUp ∷ []) refl
  off_event (Commanded (Stop app node)) = off_first (Commanded (Stop app node)) (DeclaredDown ∷ UnknownApp ∷ UnknownNode ∷ NotInList ∷ NotLive ∷ NotStarted ∷ TooManyDots ∷ DotsUsedUp ∷ []) refl
  off_event (Commanded (Drain node value)) = off_first (Commanded (Drain node value)) (DeclaredDown ∷ UnknownNode ∷ NotLive ∷ TooManyDots ∷ DotsUsedUp ∷ []) refl
  off_event (Commanded (Takeover app)) = off_first (Commanded (Takeover app)) (DeclaredDown ∷ UnknownApp ∷ NotInList ∷ NotEligible ∷ NotRunning ∷ AlreadyHolder ∷ LowerPriority ∷ TermsUsedUp ∷ DotsUsedUp ∷ []) refl
  off_event (Tick now) = off_first (Tick now) (DeclaredDown ∷ MomentBack ∷ DotsUsedUp ∷ []) refl
  off_event (Ship to) = off_first (Ship to) (UnknownNode ∷ OnSelf ∷ UpToDate ∷ []) refl
  off_event (Hear m) = off_first (Hear m) (OnSelf ∷ NotForMe ∷ DotsUsedUp ∷ []) refl
  off_event (HearOp o) = off_first (HearOp o) (DotsUsedUp ∷ []) refl

refusal_by_is : (t : Table) (last : ℕ) (running : Option RunningValue) (e : Event) → IsRight (Holds t (record { last = last; running = running }) e) (causes_of_event e) (refusal_by t last running e)
refusal_by_is t last None e = off_event t last e
refusal_by_is t last (Some r) e = on_event t last r e

-- no cause holds for an event that the table accepts
pub free_is : (t : Table) (v : NodeValue) (e : Event) → refusal_of t v e ≡ None → IsFree t v e
free_is t v e is = subst (IsRight (Holds t v e) (causes_of_event e)) is (refusal_by_is t v.last v.running e)

-- the table refuses for the least cause
pub refused_is : (t : Table) (v : NodeValue) (e : Event) (why : Refusal) → refusal_of t v e ≡ Some why → IsRefused t v e why
refused_is t v e why is = subst (IsRight (Holds t v e) (causes_of_event e)) is (refusal_by_is t v.last v.running e)

answered_by : (t : Table) (v : NodeValue) (e : Event) (why : Refusal) (r : Option Refusal) → refusal_of t v e ≡ r → why ≡ unwrap_or r NoMemory → IsAnsweredBy t v e why
answered_by t v e why None none is = inr (is, free_is t v e none)
answered_by t v e why (Some least) some is = inl (subst (IsRefused t v e) (sym is) (refused_is t v e least some))

-- the refusal if all causes are checked before memory
pub answered_is : (t : Table) (v : NodeValue) (e : Event) (why : Refusal) → why ≡ unwrap_or (refusal_of t v e) NoMemory → IsAnsweredBy t v e why
answered_is t v e why is = answered_by t v e why (refusal_of t v e) refl is

-- the table never refuses because of memory
pub never_memory : NeverRefusesForMemory
never_memory t v e is = (refused_is t v e NoMemory is).holds
