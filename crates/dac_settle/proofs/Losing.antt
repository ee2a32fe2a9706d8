-- The state of the two nodes in the worked run with a loss: the live nodes, the counters used, the lost claim, and the
-- verdict. The first node should claim the application after the wait.
use Rattle.std.proofs.Common.{◌≡◌, ℕ, ◌+◌, ◌≤◌, ◌<◌, Bool, true, false, ◌||◌, List, [], ◌∷◌, ◌++◌, Option, Some, None, option_map, refl, sym, ap, subst, ◌∙◌, arith, inl, inr}
use Rattle.dac_settle.specs.laws.Common.{nat_lt, All, option_map_or, false≢true, leb-true, and_from, NodeId, AppId, MAX_COUNTER, Dot, Origin, dot, IsGreatest, claim_cmp, Lives, IsLive, keyed_write, write, same_dot, same_dot_is, same_dot_itself, Operation, StateValue, join, IsOperationOf, meaning_of, claim_said, names, replaces, SaysFor, In-append_left, In-append_right, In-append_cases, found, finds, known-meaning, starts-meaning, permits-meaning, drains-meaning, is_up, IsEligible, key_at, holder_of, load_of, IsFirst, IsVerdict, verdict_of, candidate_of, Verdict, Failover, Halted, Move, Takeover, Kept, Nobody, verdict_in_words, up_is, preferred_is, is_due_by, Note, IsLost, waits_of, Noted, kept_is, greatest_counter, terms_used_up, next-is, Sweep, claim_of, claimed_by, is_mine, if_own, MayRunAlike, IsLate, first_node, second_node, IsEither, the_app, worked_table, first_of, start_of, lost_node, lost_claim}
use Rattle.std.specs.Prelude.{nat_eq}
use Rattle.std.specs.FinMap as map
use Rattle.std.specs.FinSet as set
use Rattle.dac_chains.specs.declared.claims.Claim.{Claim}
use Rattle.dac_chains.specs.declared.claims.How.TheVariants.{Failover as FailedOver}
use Rattle.dac_wishes.specs.DrainsValue.{origin}
use Rattle.dac_operations.specs.declared.act.Act.TheVariants.{Claim as Claims}
use Rattle.dac_config.specs.Table.{timeout_of}
use Rattle.dac_placement.specs.Placement.{IsUp}
use Rattle.dac_placement.specs.declared.verdicts.Verdict.TheVariants.{Start as ToStart}
use Rattle.dac_commands.specs.Causes.{first}
use Rattle.dac_settle.specs.Worked.{begun}
use Rattle.dac_settle.specs.laws.AnyPlacement.{same_node, one}
use Rattle.dac_settle.specs.laws.OnlyClaims.{AddsClaims, is_claim, alike, claim_greatest}
use Rattle.dac_settle.specs.laws.Due.{candidate_due}
use Rattle.dac_settle.specs.laws.Started.{AreStarts, are_live, live_only, no_claim_said}
use Rattle.dac_settle.specs.laws.BothTick.{no_row}
use Rattle.dac_settle.proofs.ComingUp.{none_some, claiming_at}

-- ---- the set
abbrev the_starts : List Operation
the_starts = start_of the_app first_node 2 ∷ start_of the_app second_node 2 ∷ []

-- the third node's claim
abbrev pub claiming : Operation
claiming = claiming_at lost_node

-- both are up, the application is started at both, and the third node claimed it
abbrev pub loss_set : List Operation
loss_set = begun the_starts ++ claiming ∷ []

abbrev pub loss_state : StateValue
loss_state = meaning_of loss_set

are_starts : AreStarts the_starts
are_starts o i = elim i [
  | inl a ↦ (_, [], ap (λ (q : Operation). q.act) a)
  | inr more ↦ elim more [ inl b ↦ (_, [], ap (λ (q : Operation). q.act) b) | inr none ↦ absurd none ]
]

adds : AddsClaims (begun the_starts) loss_set
adds = record {
  keeps = λ o i. In-append_left o (begun the_starts) (claiming ∷ []) i;
  new = λ o i. elim (In-append_cases o (begun the_starts) (claiming ∷ []) i) [
    | inl old ↦ inl old
    | inr new ↦ elim new [ inl same ↦ inr (ap (λ (q : Operation). is_claim q.act) same) | inr none ↦ absurd none ]
  ];
}

begun_alike : MayRunAlike loss_state (meaning_of (begun the_starts))
begun_alike = alike (begun the_starts) loss_set adds

pub is_live : (n : NodeId) → IsEither n → IsLive loss_state.lives n 1
is_live n either = subst (λ (l : Lives). IsLive l n 1) (sym begun_alike.lives) (are_live the_starts are_starts n either)

pub only_live : (n : NodeId) (inc : ℕ) → IsLive loss_state.lives n inc → IsEither n × (1 ≡ inc)
only_live n inc alive = live_only the_starts are_starts n inc (subst (λ (l : Lives). IsLive l n inc) begun_alike.lives alive)

said_by : (app : AppId) (c : Claim) → SaysFor claim_said loss_set app c → (the_app ≡ app) × (lost_claim ≡ c)
said_by app c says = elim (In-append_cases says.0 (begun the_starts) (claiming ∷ []) says.1.0) [
  | inl old ↦ absurd (no_claim_said the_starts are_starts app c (says.0, (old, says.1.1)))
  | inr new ↦ elim new [
    | inl same ↦
        let e = sym (ap (λ (q : Operation). claim_said q.dot q.act) same) ∙ says.1.1 in
        let pair : ◌≡◌ {A = AppId × Claim} (the_app, lost_claim) (app, c) = one e in
        (ap (λ (p : AppId × Claim). p.0) pair, ap (λ (p : AppId × Claim). p.1) pair)
    | inr none ↦ absurd none
  ]
]

pub claimed : map.get loss_state.claims the_app ≡ Some lost_claim
claimed = by_claim (map.get loss_state.claims the_app) (claim_greatest loss_set the_app)
  where
    by_claim : (o : Option Claim) → IsGreatest claim_cmp (SaysFor claim_said loss_set the_app) o → o ≡ Some lost_claim
    by_claim None none = absurd (none lost_claim (claiming, (In-append_right claiming (begun the_starts) (claiming ∷ []) (inl refl), refl)))
    by_claim (Some c) is = ap (λ k. Some k) (sym (said_by the_app c is.0).1)

only_claimed : (app : AppId) (c : Claim) → map.get loss_state.claims app ≡ Some c → the_app ≡ app
only_claimed app c e = by_claim (map.get loss_state.claims app) (claim_greatest loss_set app) e
  where
    by_claim : (o : Option Claim) → IsGreatest claim_cmp (SaysFor claim_said loss_set app) o → o ≡ Some c → the_app ≡ app
    by_claim None none e = none_some e
    by_claim (Some k) is e = (said_by app k is.0).0

third : IsEither lost_node → ⊥
third either = elim either [ inl a ↦ two_zero (ap (λ (n : NodeId). n.0) a) | inr b ↦ two_one (ap (λ (n : NodeId). n.0) b) ]
  where
    two_zero : ◌≡◌ {A = ℕ} 2 0 → ⊥
    two_zero e = absurd (omega (arith, e))

    two_one : ◌≡◌ {A = ℕ} 2 1 → ⊥
    two_one e = absurd (omega (arith, e))

pub is_lost : IsLost loss_state the_app lost_claim
is_lost = record { greatest = claimed; down = λ up. third (only_live lost_node 1 up).0 }

-- ---- counters
at_most_two : (n : NodeId) → IsEither n → (k : ℕ) → set.contains loss_state.known (dot (first_of n) k) ≡ true → k < 3
at_most_two n either k t =
    let f = found (names (dot (first_of n) k)) loss_set (sym (known-meaning loss_set (dot (first_of n) k)) ∙ t) in
    by_place f.0 f.1.0 f.1.1
  where
    with : (o p : Operation) → o ≡ p → names (dot (first_of n) k) o ≡ true → names (dot (first_of n) k) p ≡ true
    with o p e t = subst (λ (q : Operation). names (dot (first_of n) k) q ≡ true) e t

    left_of : (b : Bool) → (b || false) ≡ true → b ≡ true
    left_of true e = refl
    left_of false e = e

    low : (m l : ℕ) → m ≡ l → l < 3 → m < 3
    low m l e h = omega arith

    dot_is : (x : Dot) → (same_dot (dot (first_of n) k) x || false) ≡ true → dot (first_of n) k ≡ x
    dot_is x t = same_dot_is (dot (first_of n) k) x (left_of (same_dot (dot (first_of n) k) x) t)

    by_dot : (x : Dot) → x.n < 3 → (same_dot (dot (first_of n) k) x || false) ≡ true → k < 3
    by_dot x few t = low k x.n (ap (λ (y : Dot). y.n) (dot_is x t)) few

    by_place : (o : Operation) → IsOperationOf o loss_set → names (dot (first_of n) k) o ≡ true → k < 3
    by_place o (inl a) t = by_dot (dot (first_of first_node) 1) (omega arith) (with o _ a t)
    by_place o (inr (inl a)) t = by_dot (dot (first_of second_node) 1) (omega arith) (with o _ a t)
    by_place o (inr (inr (inl a))) t = by_dot (dot (first_of first_node) 2) (omega arith) (with o _ a t)
    by_place o (inr (inr (inr (inl a)))) t = by_dot (dot (first_of second_node) 2) (omega arith) (with o _ a t)
    by_place o (inr (inr (inr (inr (inl a))))) t =
        let is : n ≡ lost_node = ap (λ (y : Dot). y.origin.node) (dot_is (dot (first_of lost_node) 3) (with o _ a t)) in
        absurd (third (subst IsEither is either))
    by_place o (inr (inr (inr (inr (inr none))))) t = absurd none

start_in : (n : NodeId) → IsEither n → IsOperationOf (start_of the_app n 2) loss_set
start_in n either = elim either [
  | inl a ↦ inr (inr (inl (ap (λ m. start_of the_app m 2) a)))
  | inr b ↦ inr (inr (inr (inl (ap (λ m. start_of the_app m 2) b))))
]

pub counters : (n : NodeId) → IsEither n → greatest_counter (first_of n) loss_state.known + 1 ≡ 3
counters n either = sym (ap (λ (d : Dot). d.n) (next-is loss_state.known (first_of n) (dot (first_of n) 3) (record {
  same_origin = refl;
  above = λ k there. at_most_two n either k there;
  tight = inr (known-meaning loss_set (dot (first_of n) 2) ∙ finds (names (dot (first_of n) 2)) loss_set (start_of the_app n 2) (start_in n either) (ap (λ b. b || replaces (dot (first_of n) 2) (start_of the_app n 2)) (same_dot_itself (dot (first_of n) 2))));
  at_most = leb-true 3 MAX_COUNTER refl;
})))

pub few : (n : NodeId) → IsEither n → nat_lt MAX_COUNTER (greatest_counter (first_of n) loss_state.known + 1) ≡ false
few n either = ap (nat_lt MAX_COUNTER) (counters n either)

pub up_there : (n : NodeId) → IsEither n → is_up loss_state (first_of n) ≡ true
up_there n either = (up_is loss_state (first_of n)).1 (is_live n either)

-- ---- the note has waited
-- the note at moment 0
abbrev pub loss_note : Note
loss_note = record { state = loss_state; moment = 0 }

pub late : IsLate worked_table (loss_note ∷ []) 5000
late app claim since noted = by_row noted.row noted.begin noted.before noted.parts noted.lost noted.moment
  where
    begin_is : (begin : Note) (before : List Note) → loss_note ∷ [] ≡ begin ∷ before → loss_note ≡ begin
    begin_is begin before e = cc

    rest_is : (x begin : Note) (row before : List Note) → loss_note ∷ [] ≡ x ∷ (row ++ begin ∷ before) → [] ≡ row ++ begin ∷ before
    rest_is x begin row before e = cc

    wait : the_app ≡ app → 0 ≡ since → since + timeout_of worked_table app ≤ 5000
    wait is zero = subst (λ (p : AppId × ℕ). p.1 + timeout_of worked_table p.0 ≤ 5000) (λ i. (is i, zero i)) (omega arith)

    by_row : (row : List Note) (begin : Note) (before : List Note) → loss_note ∷ [] ≡ row ++ begin ∷ before → All (λ note. IsLost note.state app claim) (row ++ begin ∷ []) → begin.moment ≡ since → since + timeout_of worked_table app ≤ 5000
    by_row [] begin before parts lost moment =
        let is = begin_is begin before parts in
        let at : IsLost begin.state app claim = lost 0 begin (omega arith) in
        let there : IsLost loss_state app claim = subst (λ (k : Note). IsLost k.state app claim) (sym is) at in
        wait (only_claimed app claim there.greatest) (ap (λ (k : Note). k.moment) is ∙ moment)
    by_row (x ∷ row) begin before parts lost moment = absurd (no_row row begin before (rest_is x begin row before parts))

-- ---- the first node claims the application
may_run : IsEligible worked_table loss_state the_app first_node
may_run = record {
  listed = refl;
  inc = 1;
  live = is_live first_node (inl refl);
  allowed = (inl (λ d. permits-meaning loss_set (write (key_at the_app first_node 1) d), refl), λ d. none_some (sym (drains-meaning loss_set (keyed_write (origin first_node 1) d.0)) ∙ d.1));
  started = (dot (first_of first_node) 2, starts-meaning loss_set (write (key_at the_app first_node 1) (dot (first_of first_node) 2)));
}

never_up : (o : Origin) → holder_of loss_state the_app ≡ Some o → IsUp loss_state o → ⊥
never_up o held up =
    let is : first_of lost_node ≡ o = one (sym (ap (option_map (λ (c : Claim). c.origin)) claimed) ∙ held) in
    is_lost.down (subst (IsUp loss_state) (sym is) up)

no_load : (n : NodeId) → load_of worked_table loss_state the_app n ≡ 0
no_load n = refl

first_is : (n : NodeId) → IsFirst worked_table loss_state the_app n → n ≡ first_node
first_is n first = by_tests (nat_eq n.0 0) (nat_eq n.0 1) refl refl
  where
    one_zero : ◌≤◌ 1 0 → ⊥
    one_zero h = absurd (omega (arith, h))

    second : second_node ≡ n → n ≡ first_node
    second is =
        let at : IsFirst worked_table loss_state the_app second_node = subst (IsFirst worked_table loss_state the_app) (sym is) first in
        elim ((preferred_is worked_table loss_state the_app second_node first_node).0 (at.preferred first_node (omega arith) may_run refl)) [
          | inl less ↦ let a = no_load second_node in let b = no_load first_node in absurd (omega (arith, less, a, b))
          | inr level ↦ absurd (one_zero level.1)
        ]

    by_tests : (a b : Bool) → nat_eq n.0 0 ≡ a → nat_eq n.0 1 ≡ b → n ≡ first_node
    by_tests true b at other = same_node at
    by_tests false true other at = second (sym (same_node at))
    by_tests false false away apart = absurd (elim (only_live n first.eligible.inc first.eligible.live).0 [
      | inl is ↦ false≢true (sym away ∙ ap (λ (k : NodeId). nat_eq k.0 0) is)
      | inr is ↦ false≢true (sym apart ∙ ap (λ (k : NodeId). nat_eq k.0 1) is)
    ])

is_failover : (v : Verdict) → IsVerdict worked_table loss_state the_app v → v ≡ Failover first_node
is_failover (ToStart n) is = none_some (sym is.0 ∙ ap (option_map (λ (c : Claim). c.origin)) claimed)
is_failover (Failover n) is = ap (λ k. Failover k) (first_is n is.1)
is_failover (Halted n) is = absurd (never_up is.0 is.1 is.2.1)
is_failover (Move n) is = absurd (never_up is.0.0 is.0.1 is.0.2.0)
is_failover (Takeover n) is = absurd (never_up is.1.0 is.1.1 is.1.2.1)
is_failover (Kept n) is = absurd (never_up is.0.0 is.0.1 is.0.2.1)
is_failover Nobody is = absurd (is.0 first_node (omega arith) may_run)

pub verdict_is : verdict_of worked_table loss_state the_app ≡ Failover first_node
verdict_is = is_failover (verdict_of worked_table loss_state the_app) (verdict_in_words worked_table loss_state the_app)

abbrev pub the_waits : List (Option Noted)
the_waits = waits_of worked_table (record { state = loss_state; moment = 5000 } ∷ loss_note ∷ [])

candidate : candidate_of (verdict_of worked_table loss_state the_app) ≡ Some first_node
candidate = ap candidate_of verdict_is

pub mine : is_mine worked_table (first_of first_node) the_waits 5000 loss_state the_app ≡ true
mine =
    and_from _ _ (if_own (first_of first_node) (candidate_of (verdict_of worked_table loss_state the_app)) candidate)
    (ap (λ noted. is_due_by worked_table noted loss_state the_app 5000 (verdict_of worked_table loss_state the_app)) (kept_is worked_table (record { state = loss_state; moment = 5000 } ∷ loss_note ∷ []) the_app (omega arith))
    ∙ candidate_due worked_table loss_state the_app (record { state = loss_state; moment = 5000 }) (loss_note ∷ []) 5000 late (λ claim lost. lost) (λ claim lost. lost) first_node candidate)

pub terms_left : terms_used_up loss_state the_app ≡ false
terms_left = ap (λ c. nat_lt MAX_COUNTER (option_map_or (λ (claim : Claim). claim.term) c 0 + 1)) claimed

abbrev pub the_claim : Operation
the_claim = claim_of worked_table (first_of first_node) loss_state the_app

abbrev pub claims_it : Sweep
claims_it = record { ops = the_claim ∷ []; passed = []; state = join loss_state (meaning_of (the_claim ∷ [])) }

pub fails_over : the_claim.act ≡ Claims the_app 2 FailedOver (Some lost_node)
fails_over =
    ap (claimed_by loss_state the_app) verdict_is
    ∙ ap (λ (c : Option Claim). Claims the_app (option_map_or (λ (k : Claim). k.term) c 0 + 1) FailedOver (option_map (λ (o : Origin). o.node) (option_map (λ (k : Claim). k.origin) c))) claimed
