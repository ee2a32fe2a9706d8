-- The claims of a tick are in form, because a candidate is in the application's list, and a former holder is in the
-- configuration.
use Rattle.std.proofs.Common.{◌≡◌, ℕ, ◌<◌, true, false, nat_eq, List, [], ◌∷◌, Option, Some, refl, sym, ap, subst, ◌∙◌, inl, inr, true≢false, eq-eqb}
use Rattle.dac_in_form.proofs.Common.{exact_unsigned_eq, NodeId, AppId, Origin, How, Act, Operation, operation, StateValue, IsOperationOf, meaning_of, Table, node_count, app_count, Note, Two, IsConsistentOrigin, IsOperation, next_operation, next_term_only, some_same, AreInForm}
use Rattle.std.specs.FinMap as map
use Rattle.dac_chains.specs.declared.claims.Claim.{Claim as ClaimValue}
use Rattle.dac_operations.specs.declared.act.Act.TheVariants.{Claim as Claims}
use Rattle.dac_meaning.specs.StateValue.{join}
use Rattle.dac_placement.specs.declared.verdicts.Verdict.{Verdict}
use Rattle.dac_placement.specs.declared.verdicts.Verdict.TheVariants.{Start, Failover, Halted, Move, Takeover, Kept, Nobody}
use Rattle.dac_placement.specs.Placement.{IsFirst, IsVerdict, candidate_of}
use Rattle.dac_decide.specs.FailoverWait.{IsHeldAt}
use Rattle.dac_commands.specs.Commands.{claim_act}
use Rattle.dac_commands.specs.laws.Counters.{next-is}
use Rattle.dac_ticks.specs.InWords.{IsMine, IsClaimOf, ComesBy, IsSweep}
use Rattle.dac_ticks.specs.laws.Claimed.{own_claim, other_claim}
use Rattle.dac_ticks.specs.laws.Counters.{knows_after}
use Rattle.dac_ticks.specs.laws.Sweeping.{AreBelow}
use Rattle.dac_model_world.specs.laws.Carried.{none_some}
use Rattle.dac_in_form.proofs.MayIssue.{MayClaim, claim_is}

-- an operation in form, and others in form
pub one_more : (t : Table) (o : Operation) (os : List Operation) → IsOperation Two t o → AreInForm t os → AreInForm t (o ∷ os)
one_more t o os first rest x (inl e) = subst (IsOperation Two t) (sym e) first
one_more t o os first rest x (inr i) = rest x i

module _ (t : Table) (s : StateValue) (app : AppId) where
  -- a candidate is the first choice
  first_of : (verdict : Verdict) (n : NodeId) → IsVerdict t s app verdict → candidate_of verdict ≡ Some n → IsFirst t s app n
  first_of (Start m) n is e = subst (IsFirst t s app) (some_same m n e) is.1
  first_of (Failover m) n is e = subst (IsFirst t s app) (some_same m n e) is.1
  first_of (Halted m) n is e = none_some e
  first_of (Move m) n is e = subst (IsFirst t s app) (some_same m n e) is.1
  first_of (Takeover m) n is e = subst (IsFirst t s app) (some_same m n e) is.2
  first_of (Kept m) n is e = none_some e
  first_of Nobody n is e = none_some e

module _ (t : Table) (own : Origin) (s : StateValue) (may : MayClaim t own s) (app : AppId) where
  holder_there : (holder : NodeId) → IsHeldAt s app holder → holder.0 < node_count t
  holder_there holder held = subst (λ (n : NodeId). n.0 < node_count t) held.2 (may.claimers app held.0 held.1)

  -- the former holder fits the kind of claim
  from_is : (verdict : Verdict) (how : How) (from : Option NodeId) → ComesBy s app verdict how from → IsConsistentOrigin (node_count t) how from
  from_is (Start n) how from by = subst (λ h. IsConsistentOrigin (node_count t) h from) (sym by.0) by.1
  from_is (Failover n) how from by = subst (λ h. IsConsistentOrigin (node_count t) h from) (sym by.0) (by.1, by.2.1, holder_there by.1 by.2.0)
  from_is (Halted n) how from by = absurd by
  from_is (Move n) how from by = subst (λ h. IsConsistentOrigin (node_count t) h from) (sym by.0) by.1
  from_is (Takeover n) how from by = subst (λ h. IsConsistentOrigin (node_count t) h from) (sym by.0) (by.1, by.2.1, holder_there by.1 by.2.0)
  from_is (Kept n) how from by = absurd by
  from_is Nobody how from by = absurd by

  module _ (how : How) (from : Option NodeId) where
    abbrev after : StateValue
    after = join s (meaning_of (next_operation s own (claim_act s app how from) ∷ []))

    -- the claimers after a claim by the incarnation
    claimers_after : (b : AppId) (c : ClaimValue) → map.get after.claims b ≡ Some c → c.origin.node.0 < node_count t
    claimers_after b c e = elim (nat_eq b.0 app.0) as (λ same. nat_eq b.0 app.0 ≡ same → c.origin.node.0 < node_count t) [
      | true ↦ λ same.
          let here : b ≡ app = ap (λ k. record { 0 = k }) (exact_unsigned_eq b.0 app.0 same) in
          let claim = some_same _ c (sym (own_claim own s app how from) ∙ (ap (λ (a : AppId). map.get after.claims a) (sym here) ∙ e)) in
          subst (λ (x : ClaimValue). x.origin.node.0 < node_count t) claim may.origin.node
      | false ↦ λ other. may.claimers b c (sym (other_claim own s app how from b (λ same. true≢false (sym (eq-eqb b.0 app.0 same) ∙ other))) ∙ e)
    ] refl

    may_after : MayClaim t own after
    may_after = record { origin = may.origin; knows = knows_after own s (claim_act s app how from) refl may.knows; claimers = claimers_after }

  module _ (named : app.0 < app_count t) (notes : List Note) (now : ℕ) (verdict : Verdict) (o : Operation) (mine : IsMine t own notes now s app verdict) (claim : IsClaimOf own s app verdict o) where
    claimed_is : IsOperation Two t o
    claimed_is = subst (λ (a : Act). IsOperation Two t (operation o.dot a)) (sym claim.claims.is)
        (claim_is t own s may o.dot claim.dot app claim.claims.term claim.how claim.from claim.claims.next claim.claims.at_most named (first_of t s app verdict own.node mine.verdict_is mine.candidate).eligible.listed (from_is verdict claim.how claim.from claim.comes))

    same_claim : next_operation s own (claim_act s app claim.how claim.from) ≡ o
    same_claim = λ i. record { dot = sym (next-is s.known own o.dot claim.dot) i; act = sym (claim.claims.is ∙ ap (λ (n : ℕ). Claims app n claim.how claim.from) (next_term_only s app claim.claims.term claim.claims.next)) i }

    may_go_on : MayClaim t own (join s (meaning_of (o ∷ [])))
    may_go_on = subst (λ (x : Operation). MayClaim t own (join s (meaning_of (x ∷ [])))) same_claim (may_after claim.how claim.from)

-- each claim of a sweep is in form
pub sweep_is : (t : Table) (own : Origin) (notes : List Note) (now : ℕ) (apps : List AppId) → AreBelow (app_count t) apps → (s : StateValue) → MayClaim t own s → (ops : List Operation) (passed : List AppId) → IsSweep t own notes now s apps ops passed → AreInForm t ops
sweep_is t own notes now [] below s may ops passed sweep = λ o i. absurd (subst (IsOperationOf o) sweep.0 i)
sweep_is t own notes now (app ∷ apps) below s may ops passed (inl left) = sweep_is t own notes now apps below.1 s may ops passed left.1
sweep_is t own notes now (app ∷ apps) below s may ops passed (inr (inl claimed)) =
    let o = claimed.1 in
    let mine = claimed.3.1.0 in
    let claim = claimed.3.1.1.0 in
    subst (AreInForm t) (sym claimed.3.0)
    (one_more t o claimed.2 (claimed_is t own s may app below.0 notes now claimed.0 o mine claim)
    (sweep_is t own notes now apps below.1 (join s (meaning_of (o ∷ []))) (may_go_on t own s may app below.0 notes now claimed.0 o mine claim) claimed.2 passed claimed.3.1.1.1))
sweep_is t own notes now (app ∷ apps) below s may ops passed (inr (inr gone)) = sweep_is t own notes now apps below.1 s may ops gone.1 gone.2.1.1.1
