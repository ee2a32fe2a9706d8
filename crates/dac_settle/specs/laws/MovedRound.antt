-- The worked case of a drain: its nodes are ready, the verdict is to move the application, and a round moves it.
use Rattle.std.proofs.Common.{◌≡◌, ℕ, ◌+◌, false, List, [], ◌∷◌, Option, Some, None, option_map, refl, sym, ap, subst, ◌∙◌, arith, inl, inr}
use Rattle.dac_settle.specs.laws.Common.{nat_lt, option_map_or, NodeId, AppId, MAX_COUNTER, Origin, dot, IsGreatest, claim_cmp, IsLive, keyed_write, write, Operation, StateValue, IsOperationOf, DotsDetermine, meaning_of, life_said, claim_said, SaysFor, starts-meaning, permits-meaning, drains-meaning, app_count, Verdict, Failover, Halted, Move, Takeover, Kept, Nobody, IsStartedAt, IsAllowedAt, IsDrainedAt, IsEligible, IsVerdict, HeldBy, holder_of, key_at, verdict_of, verdict_in_words, IsLost, terms_used_up, DistinctDots-agree, Member, first_node, second_node, IsEither, the_app, worked_table, first_of, start_of, member_with, both_hold, first_claim, draining, drained_set}
use Rattle.std.specs.FinMap as map
use Rattle.dac_chains.specs.declared.claims.Claim.{Claim}
use Rattle.dac_wishes.specs.DrainsValue.{origin}
use Rattle.dac_placement.specs.declared.verdicts.Verdict.TheVariants.{Start as ToStart}
use Rattle.dac_placement.specs.Placement.{IsUp, key_of}
use Rattle.dac_settle.specs.Settling.{IsReady, Rounds}
use Rattle.dac_settle.specs.WorkedMove.{claiming, RoundsCanMove}
use Rattle.dac_settle.specs.laws.AnyPlacement.{one}
use Rattle.dac_settle.specs.laws.BothTick.{is_member, runs, after_all, the_round, both_run}
use Rattle.dac_settle.specs.laws.OnlyClaims.{claim_greatest}
use Rattle.dac_settle.specs.laws.Settled.{all_settle}
use Rattle.dac_settle.specs.laws.Started.{SayNoLives, up_live, only_up_live}

none_some : {X : Type 0} {v : X} {Y : Type 0} → ◌≡◌ {A = Option X} None (Some v) → Y
none_some e = cc

abbrev pub drained_state : StateValue
drained_state = meaning_of drained_set

-- ---- the live nodes
abbrev the_rest : List Operation
the_rest = start_of the_app first_node 2 ∷ start_of the_app second_node 2 ∷ claiming ∷ draining ∷ []

silent : SayNoLives the_rest
silent o (inl a) = ap (λ (q : Operation). life_said q.dot q.act) a
silent o (inr (inl a)) = ap (λ (q : Operation). life_said q.dot q.act) a
silent o (inr (inr (inl a))) = ap (λ (q : Operation). life_said q.dot q.act) a
silent o (inr (inr (inr (inl a)))) = ap (λ (q : Operation). life_said q.dot q.act) a
silent o (inr (inr (inr (inr none)))) = absurd none

pub is_live : (n : NodeId) → IsEither n → IsLive drained_state.lives n 1
is_live = up_live the_rest silent

pub only_live : (n : NodeId) (inc : ℕ) → IsLive drained_state.lives n inc → IsEither n × (1 ≡ inc)
only_live = only_up_live the_rest silent

-- ---- the claims
pub said_by : (app : AppId) (c : Claim) → SaysFor claim_said drained_set app c → (the_app ≡ app) × (first_claim ≡ c)
said_by app c says = by_place says.0 says.1.0 says.1.1
  where
    pair_of : ◌≡◌ {A = Option (AppId × Claim)} (Some (the_app, first_claim)) (Some (app, c)) → (the_app ≡ app) × (first_claim ≡ c)
    pair_of e = let pair : ◌≡◌ {A = AppId × Claim} (the_app, first_claim) (app, c) = one e in (ap (λ (p : AppId × Claim). p.0) pair, ap (λ (p : AppId × Claim). p.1) pair)

    by_place : (o : Operation) → IsOperationOf o drained_set → claim_said o.dot o.act ≡ Some (app, c) → (the_app ≡ app) × (first_claim ≡ c)
    by_place o (inl a) e = none_some (sym (ap (λ (q : Operation). claim_said q.dot q.act) a) ∙ e)
    by_place o (inr (inl a)) e = none_some (sym (ap (λ (q : Operation). claim_said q.dot q.act) a) ∙ e)
    by_place o (inr (inr (inl a))) e = none_some (sym (ap (λ (q : Operation). claim_said q.dot q.act) a) ∙ e)
    by_place o (inr (inr (inr (inl a)))) e = none_some (sym (ap (λ (q : Operation). claim_said q.dot q.act) a) ∙ e)
    by_place o (inr (inr (inr (inr (inl a))))) e = pair_of (sym (ap (λ (q : Operation). claim_said q.dot q.act) a) ∙ e)
    by_place o (inr (inr (inr (inr (inr (inl a)))))) e = none_some (sym (ap (λ (q : Operation). claim_said q.dot q.act) a) ∙ e)
    by_place o (inr (inr (inr (inr (inr (inr none)))))) e = absurd none

pub claimed : map.get drained_state.claims the_app ≡ Some first_claim
claimed = by_claim (map.get drained_state.claims the_app) (claim_greatest drained_set the_app)
  where
    by_claim : (o : Option Claim) → IsGreatest claim_cmp (SaysFor claim_said drained_set the_app) o → o ≡ Some first_claim
    by_claim None none = absurd (none first_claim (claiming, (inr (inr (inr (inr (inl refl)))), refl)))
    by_claim (Some c) is = ap (λ k. Some k) (sym (said_by the_app c is.0).1)

of_first : (app : AppId) (claim : Claim) → map.get drained_state.claims app ≡ Some claim → first_claim ≡ claim
of_first app claim e = by_claim (map.get drained_state.claims app) (claim_greatest drained_set app) e
  where
    by_claim : (o : Option Claim) → IsGreatest claim_cmp (SaysFor claim_said drained_set app) o → o ≡ Some claim → first_claim ≡ claim
    by_claim None none e = none_some e
    by_claim (Some k) is e = (said_by app k is.0).1 ∙ one e

pub never_lost : (app : AppId) (claim : Claim) → IsLost drained_state app claim → ⊥
never_lost app claim lost = lost.down (subst (λ (c : Claim). IsUp drained_state c.origin) (of_first app claim lost.greatest) (is_live first_node (inl refl)))

-- ---- both nodes are ready
is_ready : IsReady (both_hold drained_set)
is_ready = record {
  same = λ m n d e of_m of_n o i. subst (λ (k : Member). IsOperationOf o k.held) ((sym (is_member drained_set m d of_m).0) ∙ (is_member drained_set n e of_n).0) i;
  runs = λ m d of_m n inc alive.
      let only = only_live n inc (subst (λ (k : Member). IsLive (meaning_of k.held).lives n inc) (sym (is_member drained_set m d of_m).0) alive) in
      (member_with drained_set, runs drained_set n only.0, only.1);
  live = λ m n d e of_m of_n.
      let at = is_member drained_set n e of_n in
      subst (λ (k : Member). IsLive (meaning_of k.held).lives n e.inc) (is_member drained_set m d of_m).0
      (subst (λ (k : Member). IsLive drained_state.lives n k.inc) at.0 (is_live n at.1));
  noted = λ m d of_m app claim lost. absurd (never_lost app claim (subst (λ (k : Member). IsLost (meaning_of k.held) app claim) (sym (is_member drained_set m d of_m).0) lost));
}

-- ---- the verdict is to move the application
pub is_drained : IsDrainedAt drained_state first_node 1
is_drained = (dot (first_of second_node) 3, drains-meaning drained_set (keyed_write (origin first_node 1) (dot (first_of second_node) 3)))

started : (n : NodeId) → IsEither n → IsStartedAt drained_state (key_at the_app n 1)
started n either = elim either [
  | inl a ↦ subst (λ (k : NodeId). IsStartedAt drained_state (key_at the_app k 1)) (sym a) (dot (first_of first_node) 2, starts-meaning drained_set (write (key_at the_app first_node 1) (dot (first_of first_node) 2)))
  | inr b ↦ subst (λ (k : NodeId). IsStartedAt drained_state (key_at the_app k 1)) (sym b) (dot (first_of second_node) 2, starts-meaning drained_set (write (key_at the_app second_node 1) (dot (first_of second_node) 2)))
]

may_run : IsEligible worked_table drained_state the_app second_node
may_run = record {
  listed = refl;
  inc = 1;
  live = is_live second_node (inr refl);
  allowed = (inl (λ d. permits-meaning drained_set (write (key_at the_app second_node 1) d), refl), λ d. none_some (sym (drains-meaning drained_set (keyed_write (origin second_node 1) d.0)) ∙ d.1));
  started = started second_node (inr refl);
}

-- the holder is the first node, which is live, and where the application is started but not allowed
is_holder : (o : Origin) → holder_of drained_state the_app ≡ Some o → first_of first_node ≡ o
is_holder o held = one (sym (ap (option_map (λ (c : Claim). c.origin)) claimed) ∙ held)

never_down : HeldBy drained_state the_app (λ o. ¬ IsUp drained_state o) → ⊥
never_down h = h.2 (subst (IsUp drained_state) (is_holder h.0 h.1) (is_live first_node (inl refl)))

never_free : holder_of drained_state the_app ≡ None → ⊥
never_free e = none_some (sym e ∙ ap (option_map (λ (c : Claim). c.origin)) claimed)

never_stopped : (o : Origin) → holder_of drained_state the_app ≡ Some o → (IsStartedAt drained_state (key_of the_app o) → ⊥) → ⊥
never_stopped o held stopped = stopped (subst (λ (k : Origin). IsStartedAt drained_state (key_of the_app k)) (is_holder o held) (started first_node (inl refl)))

never_allowed : (o : Origin) → holder_of drained_state the_app ≡ Some o → IsAllowedAt worked_table drained_state (key_of the_app o) → ⊥
never_allowed o held allowed = allowed.1 (subst (λ (k : Origin). IsDrainedAt drained_state k.node k.inc) (is_holder o held) is_drained)

second_is : (n : NodeId) → IsEligible worked_table drained_state the_app n → n ≡ second_node
second_is n may = elim (only_live n may.inc may.live).0 [
  | inl a ↦
      let same : 1 ≡ may.inc = (only_live n may.inc may.live).1 in
      absurd (may.allowed.1 (subst (λ (k : NodeId × ℕ). IsDrainedAt drained_state k.0 k.1) (λ i. (sym a i, same i)) is_drained))
  | inr b ↦ b
]

is_move : (v : Verdict) → IsVerdict worked_table drained_state the_app v → v ≡ Move second_node
is_move (ToStart n) is = absurd (never_free is.0)
is_move (Failover n) is = absurd (never_down is.0)
is_move (Halted n) is = absurd (never_stopped is.0 is.1 is.2.2)
is_move (Move n) is = ap (λ k. Move k) (second_is n is.1.eligible)
is_move (Takeover n) is = absurd (never_allowed is.1.0 is.1.1 is.1.2.3)
is_move (Kept n) is = absurd (never_allowed is.0.0 is.0.1 is.0.2.3)
is_move Nobody is = absurd (is.0 second_node (omega arith) may_run)

pub to_move : verdict_of worked_table drained_state the_app ≡ Move second_node
to_move = is_move (verdict_of worked_table drained_state the_app) (verdict_in_words worked_table drained_state the_app)

-- ---- the round
agree : DotsDetermine drained_set
agree = DistinctDots-agree drained_set (refl, (refl, (refl, (refl, (refl, (refl, tt))))))

pub terms_left : terms_used_up drained_state the_app ≡ false
terms_left = ap (λ c. nat_lt MAX_COUNTER (option_map_or (λ (claim : Claim). claim.term) c 0 + 1)) claimed

the_rounds : Rounds worked_table (app_count worked_table) (both_hold drained_set) (after_all drained_set agree terms_left)
the_rounds = (after_all drained_set agree terms_left, the_round drained_set agree terms_left, refl)

pub rounds_can_move : RoundsCanMove
rounds_can_move = record {
  ready = is_ready;
  drained = is_drained;
  moves = to_move;
  later = after_all drained_set agree terms_left;
  rounds = the_rounds;
  run = both_run drained_set agree terms_left;
  settled = λ n d of_n. all_settle worked_table (both_hold drained_set) (after_all drained_set agree terms_left) is_ready the_rounds n d of_n the_app (omega arith);
}
