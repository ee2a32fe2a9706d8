-- The next term of an application's claims, and the claim under it.
use Rattle.std.proofs.Common.{◌≡◌, ◌↔◌, ℕ, ◌+◌, ◌<◌, ◌≤◌, true, false, Option, Some, None, refl, sym, subst, arith}
use Rattle.std.specs.Prelude.{MatchOption}
use Rattle.std.specs.Option.{option_map_or}
use Rattle.std.specs.FinMap as map
use Rattle.std.proofs.lemmas.Bool.{ltb-true, ltb-false, lt-ltb}
use Rattle.dac_base.specs.declared.limits.TheConstants.{MAX_COUNTER}
use Rattle.dac_base.specs.declared.NodeId.{NodeId}
use Rattle.dac_base.specs.declared.AppId.{AppId}
use Rattle.dac_chains.specs.declared.claims.Claim.{Claim}
use Rattle.dac_chains.specs.declared.claims.How.{How}
use Rattle.dac_placement.specs.StateValue.{StateValue}
use Rattle.dac_commands.specs.Commands.{next_term, claim_act}
use Rattle.dac_commands.specs.Causes.{terms_used_up}
use Rattle.dac_commands.specs.Written.{IsNextTerm, HasLastTerm, IsNextClaim}

-- the term after this claim's, or 1 without a claim
abbrev term_after : Option Claim → ℕ
term_after greatest = option_map_or (λ (c : Claim). c.term) greatest 0 + 1

after_is : (greatest : Option Claim) → MatchOption greatest (term_after greatest ≡ 1) (λ (c : Claim). term_after greatest ≡ c.term + 1)
after_is None = refl
after_is (Some c) = refl

after_only : (greatest : Option Claim) (term : ℕ) → MatchOption greatest (term ≡ 1) (λ (c : Claim). term ≡ c.term + 1) → term ≡ term_after greatest
after_only None term h = h
after_only (Some c) term h = h

-- the term after a claim's is past the last exactly when the claim has the last one or a later one
past_after : (greatest : Option Claim) → MAX_COUNTER < term_after greatest → (claim : Claim) × ((greatest ≡ Some claim) × (MAX_COUNTER ≤ claim.term))
past_after None h = absurd (past_first MAX_COUNTER h (ltb-true 0 MAX_COUNTER refl))
  where
    past_first : (m : ℕ) → m < 1 → 0 < m → ⊥
    past_first m h k = omega arith
past_after (Some c) h = (c, (refl, below MAX_COUNTER c.term h))
  where
    below : (m n : ℕ) → m < n + 1 → m ≤ n
    below m n h = omega arith

after_last : (greatest : Option Claim) (claim : Claim) → greatest ≡ Some claim → MAX_COUNTER ≤ claim.term → MAX_COUNTER < term_after greatest
after_last greatest claim is high = subst (λ o. MAX_COUNTER < term_after o) (sym is) (above MAX_COUNTER claim.term high)
  where
    above : (m n : ℕ) → m ≤ n → m < n + 1
    above m n h = omega arith

module _ (s : StateValue) (app : AppId) where
  pub next_term_is : IsNextTerm s app (next_term s app)
  next_term_is = after_is (map.get s.claims app)

  pub next_term_only : (term : ℕ) → IsNextTerm s app term → term ≡ next_term s app
  next_term_only term h = after_only (map.get s.claims app) term h

  -- the terms are used up exactly when the greatest claim has the last one or a later one
  pub terms_used_up_is : (terms_used_up s app ≡ true) ↔ HasLastTerm s app
  terms_used_up_is = (
    λ e. past_after (map.get s.claims app) (ltb-true MAX_COUNTER (next_term s app) e),
    λ h. lt-ltb MAX_COUNTER (next_term s app) (after_last (map.get s.claims app) h.0 h.1.0 h.1.1),
  )

  -- if a term is left, the claim has the next one
  pub next_claim_is : (how : How) (from : Option NodeId) → terms_used_up s app ≡ false → IsNextClaim s app how from (claim_act s app how from)
  next_claim_is how from left = record { term = next_term s app; next = next_term_is; at_most = ltb-false MAX_COUNTER (next_term s app) left; is = refl }
