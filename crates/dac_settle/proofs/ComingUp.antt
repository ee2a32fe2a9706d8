-- Boots in the worked runs: the live nodes and the counters used. Each node requests a start, and one that knows of no
-- other claims the application.
use Rattle.std.proofs.Common.{◌≡◌, ℕ, ◌+◌, ◌<◌, Bool, true, false, not, cond, ◌||◌, List, [], ◌∷◌, length, Option, Some, None, option_map, refl, sym, ap, subst, ◌∙◌, arith, inl, inr}
use Rattle.dac_settle.specs.laws.Common.{nat_lt, nat_le, unwrap_or, IsSome, option_map_or, true≢false, leb-true, and_from, NodeId, AppId, MAX_COUNTER, Dot, dot, Life, Normal, IsGreatest, IsSaid, claim_cmp, IsLive, life_cmp, live_is, keyed_write, write, same_dot, same_dot_is, same_dot_itself, Key, Operation, operation, StateValue, join, IsOperationOf, DotsDetermine, meaning_of, pairs, life_said, claim_said, lives_of, names, replaces, SaysFor, of_said, is_said, found, finds, known-meaning, starts-meaning, permits-meaning, drains-meaning, lives-meaning, lives_are, group_of, is_up, IsEligible, IsStartedAt, key_at, holder_of, IsVerdict, verdict_of, candidate_of, Verdict, Failover, Halted, Move, Takeover, Kept, Nobody, verdict_in_words, up_is, is_due_by, noted_at, waits_of, Noted, Refusal, DeclaredDown, MomentBack, DotsUsedUp, UnknownNode, NotLive, TooManyDots, greatest_counter, live_or_none, act_of, next_operation, no_node, not_live, too_many, used_up, terms_used_up, next-is, no_peers, Sweep, sweep_of, sweep_from, claim_of, claimed_by, is_mine, if_own, ModelNode, joined, shown, base_after, refusal_of, otherwise, join-meaning, the_app, worked_table, first_of, up_of, start_of}
use Rattle.std.specs.Option.{is_some}
use Rattle.std.specs.FinMap as map
use Rattle.std.specs.FinSet as set
use Rattle.dac_origins.specs.Dots.{dot_cmp}
use Rattle.dac_origins.specs.laws.Dots.{dots_total, exact_dots}
use Rattle.dac_origins.specs.Keys.{has_key}
use Rattle.dac_origins.specs.laws.InOrder.{has_key-in_order}
use Rattle.dac_lattice.specs.declared.flags.Flag.TheVariants.{Up as IsUpFlag}
use Rattle.dac_chains.specs.declared.claims.Claim.{Claim}
use Rattle.dac_wishes.specs.DrainsValue.{origin}
use Rattle.dac_wishes.specs.Writes.{dots_at}
use Rattle.dac_wishes.specs.laws.Writes.{contains-dots_at}
use Rattle.dac_operations.specs.declared.act.Act.TheVariants.{Claim as Claims, Start as Starts}
use Rattle.dac_config.specs.Table.{node_count}
use Rattle.dac_placement.specs.declared.verdicts.Verdict.TheVariants.{Start as ToStart}
use Rattle.dac_events.specs.declared.Command.TheVariants.{Start}
use Rattle.dac_messages.specs.declared.event.Event.TheVariants.{Command as Commanded, Tick}
use Rattle.dac_events.specs.declared.refusal.Refusal.TheVariants.{UnknownApp, NotInList}
use Rattle.dac_commands.specs.Commands.{live_key, live, standing_starts}
use Rattle.dac_commands.specs.Causes.{first, unlisted}
use Rattle.dac_model_world.specs.Step.{comes_up}
use Rattle.dac_meaning.specs.laws.StateLaws.{bottom-join}
use Rattle.dac_meaning.specs.laws.Joins.{meaning-state}
use Rattle.dac_settle.specs.laws.AnyPlacement.{one}
use Rattle.dac_settle.specs.laws.OnlyClaims.{claim_greatest}
use Rattle.dac_settle.specs.laws.Started.{up_life}

pub none_some : {X : Type 0} {v : X} {Y : Type 0} → ◌≡◌ {A = Option X} None (Some v) → Y
none_some e = cc

pair_of : {X Y : Type 0} {a c : X} {b d : Y} → ◌≡◌ {A = Option (X × Y)} (Some (a, b)) (Some (c, d)) → (a ≡ c) × (b ≡ d)
pair_of {X = X} {Y = Y} {a = a} {c = c} {b = b} {d = d} e = let pair : ◌≡◌ {A = X × Y} (a, b) (c, d) = one e in (ap (λ (p : X × Y). p.0) pair, ap (λ (p : X × Y). p.1) pair)

-- ---- sets in which one node is up, in its first incarnation
abbrev SayNoLife : List Operation → Type 0
SayNoLife rest = (o : Operation) → IsOperationOf o rest → (m : NodeId) (l : Life) → life_said o.dot o.act ≡ Some (m, l) → ⊥

module _ (n : NodeId) (rest : List Operation) (none : SayNoLife rest) where
  abbrev pub lone : List Operation
  lone = up_of n ∷ rest

  life_report : (m : NodeId) (l : Life) → SaysFor life_said lone m l → (n ≡ m) × (up_life ≡ l)
  life_report m l says = elim says.1.0 [
    | inl same ↦ pair_of (sym (ap (λ (q : Operation). life_said q.dot q.act) same) ∙ says.1.1)
    | inr more ↦ absurd (none says.0 more m l says.1.1)
  ]

  is_live : IsLive (meaning_of lone).lives n 1
  is_live = ap (λ lives. map.get lives n) (lives-meaning lone) ∙ by_life (map.get (lives_of lone) n) (lives_are lone n)
    where
      by_life : (o : Option Life) → IsGreatest life_cmp (IsSaid life_said (pairs lone) n) o → o ≡ Some up_life
      by_life None nothing = absurd (nothing up_life (is_said life_said lone n up_life (up_of n, (inl refl, refl))))
      by_life (Some l) is = ap (λ k. Some k) (sym (life_report n l (of_said life_said lone n l is.0)).1)

  live_only : (m : NodeId) (inc : ℕ) → IsLive (meaning_of lone).lives m inc → (n ≡ m) × (1 ≡ inc)
  live_only m inc alive =
      let l : Life = record { inc = inc; flag = IsUpFlag } in
      let is : IsGreatest life_cmp (IsSaid life_said (pairs lone) m) (Some l) = subst (IsGreatest life_cmp (IsSaid life_said (pairs lone) m)) (sym (ap (λ lives. map.get lives m) (lives-meaning lone)) ∙ alive) (lives_are lone m) in
      let said = life_report m l (of_said life_said lone m l is.0) in
      (said.0, ap (λ (k : Life). k.inc) said.1)

-- ---- counters
-- a known dot is that of an operation, if none replaces any
pub named_in : (os : List Operation) → ((o : Operation) → IsOperationOf o os → (d : Dot) → replaces d o ≡ false) → (d : Dot) → set.contains (meaning_of os).known d ≡ true → (o : Operation) × (IsOperationOf o os × (d ≡ o.dot))
named_in os bare d t =
    let f = found (names d) os (sym (known-meaning os d) ∙ t) in
    (f.0, (f.1.0, same_dot_is d f.0.dot (left_of (same_dot d f.0.dot) (ap (λ b. same_dot d f.0.dot || b) (sym (bare f.0 f.1.0 d)) ∙ f.1.1))))
  where
    left_of : (b : Bool) → (b || false) ≡ true → b ≡ true
    left_of true e = refl
    left_of false e = e

-- ---- the operations
abbrev pub start_at : NodeId → Operation
start_at n = start_of the_app n 2

abbrev pub claiming_at : NodeId → Operation
claiming_at n = operation (dot (first_of n) 3) (Claims the_app 1 Normal None)

-- the set of a node after its boot, and after its start
abbrev came : NodeId → List Operation
came n = up_of n ∷ []

abbrev pub begun : NodeId → List Operation
begun n = up_of n ∷ start_at n ∷ []

no_life_came : SayNoLife []
no_life_came o i = absurd i

no_life_begun : (n : NodeId) → SayNoLife (start_at n ∷ [])
no_life_begun n o i m l e = elim i [ inl same ↦ none_some (sym (ap (λ (q : Operation). life_said q.dot q.act) same) ∙ e) | inr none ↦ absurd none ]

pub bare_by : (o p : Operation) (d : Dot) → o ≡ p → replaces d p ≡ false → replaces d o ≡ false
bare_by o p d same bare = ap (replaces d) same ∙ bare

came_bare : (n : NodeId) (o : Operation) → IsOperationOf o (came n) → (d : Dot) → replaces d o ≡ false
came_bare n o (inl a) d = bare_by o (up_of n) d a refl
came_bare n o (inr none) d = absurd none

begun_bare : (n : NodeId) (o : Operation) → IsOperationOf o (begun n) → (d : Dot) → replaces d o ≡ false
begun_bare n o (inl a) d = bare_by o (up_of n) d a refl
begun_bare n o (inr (inl a)) d = bare_by o (start_at n) d a refl
begun_bare n o (inr (inr none)) d = absurd none

pub number_of : (d : Dot) (o p : Operation) → d ≡ o.dot → o ≡ p → d.n ≡ p.dot.n
number_of d o p e same = ap (λ (x : Dot). x.n) e ∙ ap (λ (q : Operation). q.dot.n) same

pub below : (j k l : ℕ) → j ≡ k → k < l → j < l
below j k l e h = omega arith

came_counter : (n : NodeId) → greatest_counter (first_of n) (meaning_of (came n)).known + 1 ≡ 2
came_counter n = sym (ap (λ (d : Dot). d.n) (next-is (meaning_of (came n)).known (first_of n) (dot (first_of n) 2) (record {
  same_origin = refl;
  above = λ j t. let f = named_in (came n) (came_bare n) (dot (first_of n) j) t in at_most j f.0 f.1.0 f.1.1;
  tight = inr (known-meaning (came n) (dot (first_of n) 1) ∙ finds (names (dot (first_of n) 1)) (came n) (up_of n) (inl refl) (ap (λ b. b || replaces (dot (first_of n) 1) (up_of n)) (same_dot_itself (dot (first_of n) 1))));
  at_most = leb-true 2 MAX_COUNTER refl;
})))
  where
    at_most : (j : ℕ) (o : Operation) → IsOperationOf o (came n) → dot (first_of n) j ≡ o.dot → j < 2
    at_most j o (inl a) e = below j 1 2 (number_of (dot (first_of n) j) o (up_of n) e a) (omega arith)
    at_most j o (inr none) e = absurd none

begun_counter : (n : NodeId) → greatest_counter (first_of n) (meaning_of (begun n)).known + 1 ≡ 3
begun_counter n = sym (ap (λ (d : Dot). d.n) (next-is (meaning_of (begun n)).known (first_of n) (dot (first_of n) 3) (record {
  same_origin = refl;
  above = λ j t. let f = named_in (begun n) (begun_bare n) (dot (first_of n) j) t in at_most j f.0 f.1.0 f.1.1;
  tight = inr (known-meaning (begun n) (dot (first_of n) 2) ∙ finds (names (dot (first_of n) 2)) (begun n) (start_at n) (inr (inl refl)) (ap (λ b. b || replaces (dot (first_of n) 2) (start_at n)) (same_dot_itself (dot (first_of n) 2))));
  at_most = leb-true 3 MAX_COUNTER refl;
})))
  where
    at_most : (j : ℕ) (o : Operation) → IsOperationOf o (begun n) → dot (first_of n) j ≡ o.dot → j < 3
    at_most j o (inl a) e = below j 1 3 (number_of (dot (first_of n) j) o (up_of n) e a) (omega arith)
    at_most j o (inr (inl a)) e = below j 2 3 (number_of (dot (first_of n) j) o (start_at n) e a) (omega arith)
    at_most j o (inr (inr none)) e = absurd none

-- ---- claims
no_claim_begun : (n : NodeId) (app : AppId) (c : Claim) → SaysFor claim_said (begun n) app c → ⊥
no_claim_begun n app c says = elim says.1.0 [
  | inl a ↦ none_some (sym (ap (λ (q : Operation). claim_said q.dot q.act) a) ∙ says.1.1)
  | inr more ↦ elim more [ inl b ↦ none_some (sym (ap (λ (q : Operation). claim_said q.dot q.act) b) ∙ says.1.1) | inr none ↦ absurd none ]
]

pub none_claimed : (n : NodeId) (app : AppId) → map.get (meaning_of (begun n)).claims app ≡ None
none_claimed n app = by_claim (map.get (meaning_of (begun n)).claims app) (claim_greatest (begun n) app)
  where
    by_claim : (o : Option Claim) → IsGreatest claim_cmp (SaysFor claim_said (begun n) app) o → o ≡ None
    by_claim None none = refl
    by_claim (Some c) is = absurd (no_claim_begun n app c is.0)

-- ---- the states
abbrev pub begun_state : NodeId → StateValue
begun_state n = meaning_of (begun n)

begun_live : (n : NodeId) → IsLive (begun_state n).lives n 1
begun_live n = is_live n (start_at n ∷ []) (no_life_begun n)

-- ---- a booted node requests a start
came_live : (n : NodeId) → IsLive (meaning_of (came n)).lives n 1
came_live n = is_live n [] no_life_came

lives_once : (n : NodeId) → live (meaning_of (came n)) n ≡ Some 1
lives_once n = (live_is (meaning_of (came n)).lives n 1).1 (came_live n)

pub empty_if : (ds : List Dot) → ((d : Dot) → has_key dot_cmp ds d ≡ false) → ds ≡ []
empty_if [] h = refl
empty_if (d ∷ ds) h = absurd (true≢false (sym (ap (λ b. b || has_key dot_cmp ds d) (same_dot_itself d)) ∙ h d))

none_standing : (n : NodeId) (key : Key) → standing_starts (meaning_of (came n)) key ≡ []
none_standing n key =
    let starts = (meaning_of (came n)).starts in
    empty_if (standing_starts (meaning_of (came n)) key) (λ d. has_key-in_order dots_total exact_dots (dots_at key starts) d ∙ contains-dots_at key starts d ∙ starts-meaning (came n) (write key d))

came_is : (n : NodeId) → joined (meaning_of (came n) ∷ []) ≡ meaning_of (came n)
came_is n = bottom-join (meaning_of (came n)) (meaning-state (came n))

key_of : NodeId → ℕ → Key
key_of n inc = record { app = the_app; node = n; inc = inc }

says_start : (n : NodeId) → act_of worked_table (meaning_of (came n)) (Start the_app n) ≡ Starts (key_at the_app n 1) []
unfolding key_of
says_start n =
    let s = meaning_of (came n) in
    let inc : live_or_none s n ≡ 1 = ap (λ o. unwrap_or o 0) (lives_once n) in
    (λ i. Starts (key_of n (inc i)) (standing_starts s (key_of n (inc i)))) ∙ ap (Starts (key_of n 1)) (none_standing n (key_of n 1))

pub started_op : (n : NodeId) → next_operation (joined (meaning_of (came n) ∷ [])) (first_of n) (act_of worked_table (joined (meaning_of (came n) ∷ [])) (Start the_app n)) ≡ start_at n
started_op n =
    (λ i. next_operation (came_is n i) (first_of n) (act_of worked_table (came_is n i) (Start the_app n)))
    ∙ (λ i. operation (dot (first_of n) (came_counter n i)) (says_start n i))

abbrev pub booted : NodeId → ModelNode
booted n = record { last = 1; running = Some (comes_up (first_of n) 0) }

pub starts_on : (n : NodeId) → no_node worked_table n ≡ false → unlisted worked_table the_app n ≡ false → refusal_of worked_table (shown worked_table (booted n)) (Commanded (Start the_app n)) ≡ None
starts_on n there listed =
    let s = meaning_of (came n) in
    let up : is_up s (first_of n) ≡ true = (up_is s (first_of n)).1 (came_live n) in
    let alive : not_live s n ≡ false = ap (λ o. not (is_some o)) (lives_once n) in
    let few : too_many (length (standing_starts s (live_key s the_app n))) ≡ false = ap (λ (ds : List Dot). too_many (length ds)) (none_standing n (live_key s the_app n)) in
    let left : used_up s (first_of n) ≡ false = one_used (greatest_counter (first_of n) s.known) (came_counter n) in
    (λ i. refused (not (is_up (came_is n i) (first_of n))) (there i) (listed i) (not_live (came_is n i) n) (too_many (length (standing_starts (came_is n i) (live_key (came_is n i) the_app n)))) (used_up (came_is n i) (first_of n)))
    ∙ (λ i. refused (not (up i)) false false (alive i) (few i) (left i))
  where
    refused : Bool → Bool → Bool → Bool → Bool → Bool → Option Refusal
    refused down away unnamed dead many used =
        otherwise (first ((down, DeclaredDown) ∷ (false, UnknownApp) ∷ (away, UnknownNode) ∷ (unnamed, NotInList) ∷ (dead, NotLive) ∷ (many, TooManyDots) ∷ (used, DotsUsedUp) ∷ [])) (first ((false, DotsUsedUp) ∷ []))

    is_one : (g : ℕ) → g + 1 ≡ 2 → g ≡ 1
    is_one g e = omega arith

    one_used : (g : ℕ) → g + 1 ≡ 2 → nat_le MAX_COUNTER g ≡ false
    one_used g e = ap (nat_le MAX_COUNTER) (is_one g e)

abbrev pub begun_log : NodeId → List StateValue
begun_log n = meaning_of (came n) ∷ meaning_of (start_at n ∷ []) ∷ []

abbrev pub begun_node : NodeId → Operation → ModelNode
begun_node n o = record { last = 1; running = Some (record { origin = first_of n; moments = record { booted = 0; last = 0 }; is_open = false; notes = []; log = meaning_of (came n) ∷ meaning_of (o ∷ []) ∷ []; base = base_after 0 2 0; peers = no_peers }) }

-- ---- a node that knows of no other claims the application

-- the application's list contains the node, which is eligible by its own set
pub record CanClaim (n : NodeId) : Type 0 where
  pub there : n.0 < node_count worked_table
  pub listed : IsSome (group_of worked_table the_app n)
  pub started : IsStartedAt (begun_state n) (key_at the_app n 1)
  pub agree : DotsDetermine (begun n)

own_sweep_by : NodeId → StateValue → Sweep
own_sweep_by n u = sweep_of worked_table (first_of n) (waits_of worked_table (record { state = u; moment = 0 } ∷ [])) 0 u

module _ (n : NodeId) (can : CanClaim n) where
  abbrev own_state : StateValue
  own_state = begun_state n

  may_begin : IsEligible worked_table own_state the_app n
  may_begin = record {
    listed = can.listed;
    inc = 1;
    live = begun_live n;
    allowed = (inl (λ d. permits-meaning (begun n) (write (key_at the_app n 1) d), refl), λ d. none_some (sym (drains-meaning (begun n) (keyed_write (origin n 1) d.0)) ∙ d.1));
    started = can.started;
  }

  -- ---- the verdict
  unheld : holder_of own_state the_app ≡ None
  unheld = ap (option_map (λ (c : Claim). c.origin)) (none_claimed n the_app)

  is_start : (v : Verdict) → IsVerdict worked_table own_state the_app v → v ≡ ToStart n
  is_start (ToStart m) is = ap (λ k. ToStart k) (sym (live_only n (start_at n ∷ []) (no_life_begun n) m is.1.eligible.inc is.1.eligible.live).0)
  is_start (Failover m) is = none_some (sym unheld ∙ is.0.1)
  is_start (Halted m) is = none_some (sym unheld ∙ is.1)
  is_start (Move m) is = none_some (sym unheld ∙ is.0.1)
  is_start (Takeover m) is = none_some (sym unheld ∙ is.1.1)
  is_start (Kept m) is = none_some (sym unheld ∙ is.0.1)
  is_start Nobody is = absurd (is.0 n can.there may_begin)

  starts_it : verdict_of worked_table own_state the_app ≡ ToStart n
  starts_it = is_start (verdict_of worked_table own_state the_app) (verdict_in_words worked_table own_state the_app)

  -- ---- the tick
  pub begun_is : joined (begun_log n) ≡ own_state
  begun_is = ap (λ s. join s (meaning_of (start_at n ∷ []))) (came_is n) ∙ join-meaning (came n) (start_at n ∷ []) can.agree

  own_up : is_up own_state (first_of n) ≡ true
  own_up = (up_is own_state (first_of n)).1 (begun_live n)

  pub ticks_alone : refusal_of worked_table (shown worked_table (begun_node n (start_at n))) (Tick 0) ≡ None
  ticks_alone =
      (λ i. refused (not (is_up (begun_is i) (first_of n))) (nat_lt MAX_COUNTER (greatest_counter (first_of n) (begun_is i).known + 1)))
      ∙ (λ i. refused (not (own_up i)) (nat_lt MAX_COUNTER (begun_counter n i)))
    where
      refused : Bool → Bool → Option Refusal
      refused down used = first ((down, DeclaredDown) ∷ (false, MomentBack) ∷ (used || false, DotsUsedUp) ∷ [])

  abbrev own_waits : List (Option Noted)
  own_waits = waits_of worked_table (record { state = own_state; moment = 0 } ∷ [])

  own_mine : is_mine worked_table (first_of n) own_waits 0 own_state the_app ≡ true
  own_mine =
      and_from _ _ (if_own (first_of n) (candidate_of (verdict_of worked_table own_state the_app)) (ap candidate_of starts_it))
      (ap (is_due_by worked_table (noted_at own_waits the_app) own_state the_app 0) starts_it)

  own_terms : terms_used_up own_state the_app ≡ false
  own_terms = ap (λ c. nat_lt MAX_COUNTER (option_map_or (λ (claim : Claim). claim.term) c 0 + 1)) (none_claimed n the_app)

  own_act : claimed_by own_state the_app (verdict_of worked_table own_state the_app) ≡ Claims the_app 1 Normal None
  own_act = ap (claimed_by own_state the_app) starts_it ∙ ap (λ (c : Option Claim). Claims the_app (option_map_or (λ (k : Claim). k.term) c 0 + 1) Normal None) (none_claimed n the_app)

  abbrev claims_so : Operation → Sweep
  claims_so o = record { ops = o ∷ []; passed = []; state = join own_state (meaning_of (o ∷ [])) }

  pub sweep_alone : sweep_of worked_table (first_of n) (waits_of worked_table (record { state = joined (begun_log n); moment = 0 } ∷ [])) 0 (joined (begun_log n)) ≡ claims_so (claiming_at n)
  unfolding own_sweep_by
  sweep_alone =
      let o = claim_of worked_table (first_of n) own_state the_app in
      (λ i. own_sweep_by n (begun_is i))
      ∙ (λ i. cond (own_mine i) (cond (terms_used_up own_state the_app) (record { ops = []; passed = the_app ∷ []; state = own_state }) (claims_so o)) (sweep_from own_state))
      ∙ (λ i. cond (own_terms i) (record { ops = []; passed = the_app ∷ []; state = own_state }) (claims_so o))
      ∙ (λ i. claims_so (operation (dot (first_of n) (begun_counter n i)) (own_act i)))
