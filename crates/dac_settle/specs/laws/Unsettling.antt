-- A takeover inside a tuple unsettles. Application a runs at the first of two nodes of a tuple, and nothing else runs.
-- Then b is claimed at the first node, the only one where it can run. Now the second node runs fewer, so the rule makes
-- it take over a.
use Rattle.std.proofs.Common.{◌≡◌, ℕ, ◌<◌, Bool, true, false, cond, ◌&&◌, List, [], ◌∷◌, ◌++◌, length, Option, Some, None, option_map, refl, sym, ap, subst, ◌∙◌, arith, inl, inr}
use Rattle.dac_settle.specs.laws.Common.{nat_lt, IsSome, option_map_or, false≢true, eqb-false, NodeId, AppId, Origin, dot, Normal, IsGreatest, claim_cmp, Lives, IsLive, keyed_write, write, Operation, operation, StateValue, meaning_of, claim_said, In-append_left, In-append_right, In-append_cases, SaysFor, starts-meaning, permits-meaning, drains-meaning, Table, group_of, Verdict, Failover, Halted, Move, Takeover, Kept, Nobody, IsEligible, is_eligible, IsEarlier, IsFirst, load_of, key_at, IsStartedAt, is_up, holder_of, IsVerdict, verdict_of, candidate_of, preferred_is, verdict_in_words, MayRunAlike, IsGrown, first_node, second_node, IsEither, the_app, first_of, start_of, placed, IsGood}
use Rattle.std.specs.Prelude.{nat_eq, ◌==◌}
use Rattle.std.specs.Option.{is_some}
use Rattle.std.specs.FinMap as map
use Rattle.dac_chains.specs.declared.claims.Claim.{Claim}
use Rattle.dac_wishes.specs.DrainsValue.{origin}
use Rattle.dac_operations.specs.declared.act.Act.TheVariants.{Claim as Claims}
use Rattle.dac_shapes.specs.declared.draft.SyncWait.TheVariants.{NoSync}
use Rattle.dac_placement.specs.declared.verdicts.Verdict.TheVariants.{Start as ToStart}
use Rattle.dac_placement.specs.Placement.{runs_at, key_of, first_choice}
use Rattle.dac_placement.specs.laws.Tests.{runs_is}
use Rattle.dac_placement.specs.laws.FirstChoice.{first_is}
use Rattle.dac_placement.specs.laws.Judged.{IsChoice}
use Rattle.dac_settle.specs.Rules.{is_one_group, is_lighter, restless_by, restless_of}
use Rattle.dac_settle.specs.Staying.{Stays}
use Rattle.dac_settle.specs.Worked.{begun}
use Rattle.dac_settle.specs.laws.AnyPlacement.{one, same_node, grown_itself, grown_by}
use Rattle.dac_settle.specs.laws.OnlyClaims.{AddsClaims, is_claim, alike, claim_greatest}
use Rattle.dac_settle.specs.laws.LeftAlone.{left_if, if_left, to_eligible, to_started}
use Rattle.dac_settle.specs.laws.Placed.{IsTaken, alike_grown, claims_cases, stays, taken_if, well}
use Rattle.dac_settle.specs.laws.Started.{AreStarts, are_live, live_only, no_claim_said}

none_some : {Z : Type 0} {v : Z} {Y : Type 0} → ◌≡◌ {A = Option Z} None (Some v) → Y
none_some e = cc

-- ---- the case

abbrev other_app : AppId
other_app = record { 0 = 1 }

-- both nodes can run a, and only the first can run b
abbrev two : Table
two = record {
  nodes = (record { name = 97 ∷ []; mandatory = false; optional = false }) ∷ (record { name = 98 ∷ []; mandatory = false; optional = false }) ∷ [];
  apps = (record { name = 97 ∷ []; timeout = 0; groups = (0 ∷ 1 ∷ []) ∷ []; permission = true }) ∷ (record { name = 98 ∷ []; timeout = 0; groups = (0 ∷ []) ∷ []; permission = true }) ∷ [];
  sync_wait = NoSync;
}

abbrev the_starts : List Operation
the_starts = start_of the_app first_node 2 ∷ start_of the_app second_node 2 ∷ start_of other_app first_node 3 ∷ []

are_starts : AreStarts the_starts
are_starts o i = elim i [
  | inl first ↦ (_, [], ap (λ (q : Operation). q.act) first)
  | inr more ↦ elim more [
    | inl second ↦ (_, [], ap (λ (q : Operation). q.act) second)
    | inr last ↦ elim last [ inl third ↦ (_, [], ap (λ (q : Operation). q.act) third) | inr none ↦ absurd none ]
  ]
]

-- the first node claimed a
abbrev the_claim : Claim
the_claim = record { term = 1; origin = first_of first_node; how = Normal; from = None }

abbrev claiming : Operation
claiming = operation (dot (first_of first_node) 4) (Claims the_app 1 Normal None)

abbrev s : List Operation
s = begun the_starts ++ claiming ∷ []

abbrev known : StateValue
known = meaning_of s

-- ---- before the claim of b

adds : AddsClaims (begun the_starts) s
adds = record {
  keeps = λ o i. In-append_left o (begun the_starts) (claiming ∷ []) i;
  new = λ o i. elim (In-append_cases o (begun the_starts) (claiming ∷ []) i) [
    | inl old ↦ inl old
    | inr new ↦ elim new [ inl same ↦ inr (ap (λ (q : Operation). is_claim q.act) same) | inr none ↦ absurd none ]
  ];
}

begun_alike : MayRunAlike known (meaning_of (begun the_starts))
begun_alike = alike (begun the_starts) s adds

is_live : (n : NodeId) → IsEither n → IsLive known.lives n 1
is_live n either = subst (λ (l : Lives). IsLive l n 1) (sym begun_alike.lives) (are_live the_starts are_starts n either)

said_by : (app : AppId) (c : Claim) → SaysFor claim_said s app c → (the_app ≡ app) × (the_claim ≡ c)
said_by app c says = elim (In-append_cases says.0 (begun the_starts) (claiming ∷ []) says.1.0) [
  | inl old ↦ absurd (no_claim_said the_starts are_starts app c (says.0, (old, says.1.1)))
  | inr new ↦ elim new [
    | inl same ↦
        let e = sym (ap (λ (q : Operation). claim_said q.dot q.act) same) ∙ says.1.1 in
        let pair : ◌≡◌ {A = AppId × Claim} (the_app, the_claim) (app, c) = one e in
        (ap (λ (p : AppId × Claim). p.0) pair, ap (λ (p : AppId × Claim). p.1) pair)
    | inr none ↦ absurd none
  ]
]

a_claimed : map.get known.claims the_app ≡ Some the_claim
a_claimed = by_claim (map.get known.claims the_app) (claim_greatest s the_app)
  where
    by_claim : (o : Option Claim) → IsGreatest claim_cmp (SaysFor claim_said s the_app) o → o ≡ Some the_claim
    by_claim None none = absurd (none the_claim (claiming, (In-append_right claiming (begun the_starts) (claiming ∷ []) (inl refl), refl)))
    by_claim (Some c) is = ap (λ k. Some k) (sym (said_by the_app c is.0).1)

b_unclaimed : map.get known.claims other_app ≡ None
b_unclaimed = by_claim (map.get known.claims other_app) (claim_greatest s other_app)
  where
    apart : the_app ≡ other_app → ⊥
    apart e = let same : ◌≡◌ {A = ℕ} 0 1 = ap (λ (a : AppId). a.0) e in absurd (omega arith)

    by_claim : (o : Option Claim) → IsGreatest claim_cmp (SaysFor claim_said s other_app) o → o ≡ None
    by_claim None none = refl
    by_claim (Some c) is = absurd (apart (said_by other_app c is.0).0)

a_at_first : IsEligible two known the_app first_node
a_at_first = record {
  listed = refl;
  inc = 1;
  live = is_live first_node (inl refl);
  allowed = (inl (λ d. permits-meaning s (write (key_at the_app first_node 1) d), refl), λ d. absurd (false≢true (ap is_some (sym (drains-meaning s (keyed_write (origin first_node 1) d.0)) ∙ d.1))));
  started = (dot (first_of first_node) 2, starts-meaning s (write (key_at the_app first_node 1) (dot (first_of first_node) 2)));
}

a_at_second : IsEligible two known the_app second_node
a_at_second = record {
  listed = refl;
  inc = 1;
  live = is_live second_node (inr refl);
  allowed = (inl (λ d. permits-meaning s (write (key_at the_app second_node 1) d), refl), λ d. absurd (false≢true (ap is_some (sym (drains-meaning s (keyed_write (origin second_node 1) d.0)) ∙ d.1))));
  started = (dot (first_of second_node) 2, starts-meaning s (write (key_at the_app second_node 1) (dot (first_of second_node) 2)));
}

b_at_first : IsEligible two known other_app first_node
b_at_first = record {
  listed = refl;
  inc = 1;
  live = is_live first_node (inl refl);
  allowed = (inl (λ d. permits-meaning s (write (key_at other_app first_node 1) d), refl), λ d. absurd (false≢true (ap is_some (sym (drains-meaning s (keyed_write (origin first_node 1) d.0)) ∙ d.1))));
  started = (dot (first_of first_node) 3, starts-meaning s (write (key_at other_app first_node 1) (dot (first_of first_node) 3)));
}

-- no group is earlier than the only one
none_earlier : (m : NodeId) → ¬ IsEarlier two the_app m first_node
none_earlier m e =
    let same : ◌≡◌ {A = ℕ} 0 e.late = one e.second in
    let less = e.less in
    absurd (omega arith)

a_left : candidate_of (verdict_of two known the_app) ≡ None
unfolding a_at_first
a_left = if_left two known the_app (inr (
  first_of first_node,
  ap (option_map (λ (c : Claim). c.origin)) a_claimed,
  (is_live first_node (inl refl), inr (a_at_first.started, a_at_first.allowed, λ m lt may. none_earlier m)),
))

-- ---- loads

-- only b counts as load for a
load_is : (u : StateValue) (n : NodeId) → load_of two u the_app n ≡ cond (runs_at two u other_app n) 1 0
load_is u n = by_test (runs_at two u other_app n)
  where
    by_test : (b : Bool) → length (cond b (other_app ∷ []) []) ≡ cond b 1 0
    by_test true = refl
    by_test false = refl

none_run : (n : NodeId) → load_of two known the_app n ≡ 0
none_run n =
    load_is known n
    ∙ ap (λ (c : Option Claim). cond (option_map_or (λ (o : Origin). (o.node.0 == n.0) && is_up known o) (option_map (λ (k : Claim). k.origin) c) false && is_eligible two known other_app n) 1 0) b_unclaimed

none_lighter : (n m : NodeId) → is_lighter two known the_app n m ≡ false
none_lighter n m = λ i. nat_lt (none_run n i) (none_run m i) && is_one_group (group_of two the_app n) (group_of two the_app m)

settled_before : candidate_of (restless_of two known the_app) ≡ None
settled_before = by_verdict (verdict_of two known the_app) (first_choice two known the_app) a_left
  where
    by_verdict : (v : Verdict) (first : Option NodeId) → candidate_of v ≡ None → candidate_of (restless_by two known the_app v first) ≡ None
    by_verdict (Kept m) (Some n) e = ap (λ b. candidate_of (cond b (Takeover n) (Kept m))) (none_lighter n m)
    by_verdict (Kept m) None e = refl
    by_verdict (ToStart n) first e = e
    by_verdict (Failover n) first e = e
    by_verdict (Halted n) first e = refl
    by_verdict (Move n) first e = e
    by_verdict (Takeover n) first e = e
    by_verdict Nobody first e = refl

-- ---- b is claimed

b_open : (o : Option NodeId) → candidate_of (verdict_of two known other_app) ≡ o → (n : NodeId) × (candidate_of (verdict_of two known other_app) ≡ Some n)
b_open (Some n) e = (n, e)
b_open None e = absurd (elim (left_if two known other_app e) [
  | inl nobody ↦ nobody first_node (omega arith) b_at_first
  | inr held ↦ none_some (sym (ap (option_map (λ (c : Claim). c.origin)) b_unclaimed) ∙ held.1)
])

module _ (n : NodeId) (is : candidate_of (verdict_of two known other_app) ≡ Some n) where
  abbrev claim : Operation
  claim = (placed two).claim n s other_app

  abbrev x : List Operation
  x = s ++ claim ∷ []

  abbrev known_then : StateValue
  known_then = meaning_of x

  good : IsGood two s other_app claim
  good = well two s s (grown_itself (placed two) s) other_app n is

  grown : IsGrown (placed two) s x
  grown = grown_by (placed two) s s claim (grown_itself (placed two) s) (other_app, inr (inl refl), good)

  like : MayRunAlike known known_then
  like = alike_grown two s x grown

  a_still : map.get known_then.claims the_app ≡ Some the_claim
  a_still = elim (claims_cases two s x grown the_app) [
    | inl same ↦ same ∙ a_claimed
    | inr taken ↦ absurd (false≢true (sym (ap is_some a_left) ∙ taken.good.open_app))
  ]

  a_held : (o : Origin) → holder_of known_then the_app ≡ Some o → first_of first_node ≡ o
  a_held o held = one (sym (ap (option_map (λ (c : Claim). c.origin)) a_still) ∙ held)

  -- b runs at the first node
  b_taken : IsTaken two s x grown other_app
  b_taken = taken_if two s x grown other_app claim (In-append_right claim s (claim ∷ []) (inl refl)) good

  b_origin : b_taken.good.claim.origin ≡ first_of first_node
  b_origin =
      let o = b_taken.good.claim.origin in
      let only = live_only the_starts are_starts o.node o.inc (subst (λ (l : Lives). IsLive l o.node o.inc) begun_alike.lives b_taken.good.fit.live) in
      elim only.0 [
        | inl first ↦ λ i. record { node = first i; inc = sym only.1 i }
        | inr second ↦ absurd (false≢true (subst (λ m. IsSome (group_of two other_app m)) second b_taken.good.fit.eligible.listed))
      ]

  b_runs : runs_at two known_then other_app first_node ≡ true
  b_runs = (runs_is two known_then other_app first_node).1 (record {
    inc = 1;
    holder = ap (option_map (λ (c : Claim). c.origin)) b_taken.greatest ∙ ap (λ o. Some o) b_origin;
    up = subst (λ (l : Lives). IsLive l first_node 1) like.lives (is_live first_node (inl refl));
    eligible = to_eligible two known known_then like other_app first_node b_at_first;
  })

  b_not_at_second : runs_at two known_then other_app second_node ≡ false
  b_not_at_second = and_false (option_map_or (λ (o : Origin). (o.node.0 == 1) && is_up known_then o) (holder_of known_then other_app) false)
    where
      and_false : (b : Bool) → (b && false) ≡ false
      and_false true = refl
      and_false false = refl

  load_first : load_of two known_then the_app first_node ≡ 1
  load_first = load_is known_then first_node ∙ ap (λ b. cond b 1 0) b_runs

  load_second : load_of two known_then the_app second_node ≡ 0
  load_second = load_is known_then second_node ∙ ap (λ b. cond b 1 0) b_not_at_second

  -- the second node is the first choice
  second_first : (m : NodeId) → IsFirst two known_then the_app m → second_node ≡ m
  second_first m first = elim (nat_eq m.0 0) as (λ b. nat_eq m.0 0 ≡ b → second_node ≡ m) [
    | true ↦ λ at. absurd (not_zero (same_node at))
    | false ↦ λ away.
        let ne : ¬ (m.0 ≡ 0) = eqb-false m.0 0 away in
        let less : m.0 < 2 = first.node in
        is_one (omega arith)
  ] refl
    where
      is_one : m.0 ≡ 1 → second_node ≡ m
      is_one e = λ i. record { 0 = sym e i }

      not_zero : m ≡ first_node → ⊥
      not_zero e =
          let at : IsFirst two known_then the_app first_node = subst (IsFirst two known_then the_app) e first in
          elim ((preferred_is two known_then the_app first_node second_node).0 (at.preferred second_node (omega arith) (to_eligible two known known_then like the_app second_node a_at_second) refl)) [
            | inl less ↦ let a = load_first in let b = load_second in absurd (omega (arith, less, a, b))
            | inr level ↦ let a = load_first in let b = load_second in let same = level.0 in absurd (omega (arith, same, a, b))
          ]

  lighter : (m k : NodeId) → second_node ≡ m → first_node ≡ k → is_lighter two known_then the_app m k ≡ true
  lighter m k second first =
      subst (λ j. is_lighter two known_then the_app m j ≡ true) first
      (subst (λ j. is_lighter two known_then the_app j first_node ≡ true) second (λ i. nat_lt (load_second i) (load_first i) && is_one_group (group_of two the_app second_node) (group_of two the_app first_node)))

  -- the rule takes over a
  some_is_none : {v : NodeId} {Y : Type 0} → ◌≡◌ {A = Option NodeId} (Some v) None → Y
  some_is_none e = cc

  unsettled_by : (v : Verdict) → IsVerdict two known_then the_app v → candidate_of v ≡ None → (first : Option NodeId) → IsChoice two known_then the_app first → candidate_of (restless_by two known_then the_app v first) ≡ None → ⊥
  unfolding a_at_first
  unsettled_by (ToStart m) words e first choice none = some_is_none e
  unsettled_by (Failover m) words e first choice none = some_is_none e
  unsettled_by (Move m) words e first choice none = some_is_none e
  unsettled_by (Takeover m) words e first choice none = some_is_none e
  unsettled_by Nobody words e first choice none = words.0 first_node (omega arith) (to_eligible two known known_then like the_app first_node a_at_first)
  unsettled_by (Halted m) words e first choice none =
      words.2.2 (subst (λ (o : Origin). IsStartedAt known_then (key_of the_app o)) (a_held words.0 words.1) (to_started two known known_then like the_app (first_of first_node) a_at_first.started))
  unsettled_by (Kept m) words e None choice none = choice first_node (omega arith) (to_eligible two known known_then like the_app first_node a_at_first)
  unsettled_by (Kept m) words e (Some k) choice none =
      let at : first_node ≡ m = ap (λ (o : Origin). o.node) (a_held words.0.0 words.0.1) ∙ words.0.2.0 in
      some_is_none (sym (ap (λ b. candidate_of (cond b (Takeover k) (Kept m))) (lighter k m (second_first k choice) at)) ∙ none)

  unsettled_after : candidate_of (restless_of two known_then the_app) ≡ None → ⊥
  unsettled_after = unsettled_by (verdict_of two known_then the_app) (verdict_in_words two known_then the_app) (stays two s x grown the_app a_left) (first_choice two known_then the_app) (first_is two known_then the_app)

pub verdicts_stay : Stays verdict_of
verdicts_stay t s x app g none = stays t s x g app none

pub restless_unsettles : ¬ Stays restless_of
restless_unsettles stay =
    let n = b_open (candidate_of (verdict_of two known other_app)) refl in
    unsettled_after n.0 n.1 (stay two s (x n.0 n.1) the_app (grown n.0 n.1) settled_before)
