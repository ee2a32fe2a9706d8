-- The worked case: its nodes are ready, and they tick, tell each other all, and hold the same then.
use Rattle.std.proofs.Common.{◌≡◌, ◌+◌, false, List, [], ◌∷◌, Option, Some, None, option_map, refl, sym, ap, subst, ◌∙◌, arith, inl, inr}
use Rattle.dac_settle.specs.laws.Common.{nat_lt, option_map_or, AppId, app_count, MAX_COUNTER, dot, IsLive, keyed_write, write, Operation, IsOperationOf, DotsDetermine, meaning_of, starts-meaning, permits-meaning, drains-meaning, Verdict, Failover, Halted, Move, Takeover, Kept, Nobody, IsEligible, key_at, verdict_of, candidate_of, IsLost, terms_used_up, DistinctDots-agree, Member, IsSettled, first_node, second_node, the_app, worked_table, first_of, start_of, member_with}
use Rattle.dac_chains.specs.declared.claims.Claim.{Claim}
use Rattle.dac_wishes.specs.DrainsValue.{origin}
use Rattle.dac_placement.specs.declared.verdicts.Verdict.TheVariants.{Start as ToStart}
use Rattle.dac_settle.specs.Settling.{IsReady, Rounds}
use Rattle.dac_settle.specs.Worked.{worked_set, worked_nodes, RoundsCanBe}
use Rattle.dac_settle.specs.laws.BothTick.{is_member, runs, after_all, the_round, both_run}
use Rattle.dac_settle.specs.laws.LeftAlone.{left_if}
use Rattle.dac_settle.specs.laws.Settled.{all_settle}
use Rattle.dac_settle.specs.laws.Started.{AreStarts, are_live, live_only, none_claimed}

none_some : {X : Type 0} {v : X} {Y : Type 0} → ◌≡◌ {A = Option X} None (Some v) → Y
none_some e = cc

abbrev the_starts : List Operation
the_starts = start_of the_app first_node 2 ∷ start_of the_app second_node 2 ∷ []

are_starts : AreStarts the_starts
are_starts o i = elim i [
  | inl one ↦ (_, [], ap (λ (q : Operation). q.act) one)
  | inr more ↦ elim more [ inl two ↦ (_, [], ap (λ (q : Operation). q.act) two) | inr none ↦ absurd none ]
]

never_lost : (app : AppId) (claim : Claim) → IsLost (meaning_of worked_set) app claim → ⊥
never_lost app claim lost = none_some (sym (none_claimed the_starts are_starts app) ∙ lost.greatest)

is_ready : IsReady worked_nodes
is_ready = record {
  same = λ m n d e of_m of_n o i. subst (λ (k : Member). IsOperationOf o k.held) ((sym (is_member worked_set m d of_m).0) ∙ (is_member worked_set n e of_n).0) i;
  runs = λ m d of_m n inc alive.
      let only = live_only the_starts are_starts n inc (subst (λ (k : Member). IsLive (meaning_of k.held).lives n inc) (sym (is_member worked_set m d of_m).0) alive) in
      (member_with worked_set, runs worked_set n only.0, only.1);
  live = λ m n d e of_m of_n.
      let at = is_member worked_set n e of_n in
      subst (λ (k : Member). IsLive (meaning_of k.held).lives n e.inc) (is_member worked_set m d of_m).0
      (subst (λ (k : Member). IsLive (meaning_of worked_set).lives n k.inc) at.0 (are_live the_starts are_starts n at.1));
  noted = λ m d of_m app claim lost. absurd (never_lost app claim (subst (λ (k : Member). IsLost (meaning_of k.held) app claim) (sym (is_member worked_set m d of_m).0) lost));
}

-- ---- it isn't settled

may_run : IsEligible worked_table (meaning_of worked_set) the_app first_node
may_run = record {
  listed = refl;
  inc = 1;
  live = are_live the_starts are_starts first_node (inl refl);
  allowed = (inl (λ d. permits-meaning worked_set (write (key_at the_app first_node 1) d), refl), λ d. none_some (sym (drains-meaning worked_set (keyed_write (origin first_node 1) d.0)) ∙ d.1));
  started = (dot (first_of first_node) 2, starts-meaning worked_set (write (key_at the_app first_node 1) (dot (first_of first_node) 2)));
}

pub nobody_claims : (v : Verdict) → IsSettled v → candidate_of v ≡ None
nobody_claims (ToStart n) h = absurd h
nobody_claims (Failover n) h = absurd h
nobody_claims (Halted n) h = refl
nobody_claims (Move n) h = absurd h
nobody_claims (Takeover n) h = absurd h
nobody_claims (Kept n) h = refl
nobody_claims Nobody h = refl

unsettled : ¬ IsSettled (verdict_of worked_table (meaning_of worked_set) the_app)
unsettled settled = elim (left_if worked_table (meaning_of worked_set) the_app (nobody_claims (verdict_of worked_table (meaning_of worked_set) the_app) settled)) [
  | inl nobody ↦ nobody first_node (omega arith) may_run
  | inr held ↦ none_some (sym (ap (option_map (λ (c : Claim). c.origin)) (none_claimed the_starts are_starts the_app)) ∙ held.1)
]

-- ---- the round

terms_left : terms_used_up (meaning_of worked_set) the_app ≡ false
terms_left = ap (λ c. nat_lt MAX_COUNTER (option_map_or (λ (claim : Claim). claim.term) c 0 + 1)) (none_claimed the_starts are_starts the_app)

agree : DotsDetermine worked_set
agree = DistinctDots-agree worked_set (refl, (refl, (refl, (refl, tt))))

the_rounds : Rounds worked_table (app_count worked_table) worked_nodes (after_all worked_set agree terms_left)
the_rounds = (after_all worked_set agree terms_left, the_round worked_set agree terms_left, refl)

pub rounds_can_be : RoundsCanBe
rounds_can_be = record {
  ready = is_ready;
  unsettled = unsettled;
  later = after_all worked_set agree terms_left;
  rounds = the_rounds;
  run = both_run worked_set agree terms_left;
  settled = λ n d of_n. all_settle worked_table worked_nodes (after_all worked_set agree terms_left) is_ready the_rounds n d of_n the_app (omega arith);
}
