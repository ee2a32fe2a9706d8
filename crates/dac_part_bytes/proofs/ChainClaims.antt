-- The laws of a claim's fields.
use Rattle.std.specs.Prelude.{◌≡◌, ℕ, ◌^◌, ◌<◌, ◌≤◌, Bool, true, false, cond, nat_lt, List, ◌++◌, Option, None, Some, Ok, refl}
use Rattle.std.proofs.Common.{sym, ap, subst, arith, append_assoc}
use Rattle.dac_part_bytes.proofs.Common.{zero, suc, ◌+◌, w8, NodeId, AppId, app_cmp, Origin, Claim, Table, node_count, app_count, BadOrder, u8_in_takes, u8_in_again, u8_bytes, u16_bytes, IsOrigin, Rest, fault, ◌>>=◌, number_at, range_at, origin_at, is_above, origin_bytes, TakesAs, Again, TakesAs-more, TakesAs-made, TakesAs-both, TakesAs-wanted, Again-made, Again-both, Again-wanted, IsNext, app_at, claim_at, app_bytes, claim_bytes, Version}
use Rattle.std.proofs.lemmas.Bool.{ltb-true, ltb-false, lt-ltb, le-ltb, eqb-true}
use Rattle.dac_base.specs.declared.limits.TheConstants.{MAX_COUNTER}
use Rattle.dac_chains.specs.declared.claims.How.{How}
use Rattle.dac_chains.specs.declared.claims.How.TheVariants.{Normal, Failover, Takeover}
use Rattle.dac_bytes.specs.declared.fault.ReadFaultKind.TheVariants.{BadNumber, BadName, NotInList}
use Rattle.dac_bytes.specs.laws.Fields.{u8_takes, u8_again, counter_takes, counter_again, origin_takes, origin_again}
use Rattle.dac_bytes.specs.Numbers.{u64_bytes}
use Rattle.dac_bytes.specs.Reading.{counter_at}
use Rattle.dac_bytes.specs.laws.Takes.{TakesAs-guard, Again-guard}
use Rattle.dac_part_bytes.specs.ChainForm.{IsConsistentOrigin, IsClaimInForm}
use Rattle.dac_part_bytes.specs.Reading.{is_listed, how_of, how_at, from_code_at, is_from_of, fitting_code_at, from_of, from_at, manner_at, claimer_at, claim_of, term_and_claimer_at, claim_fields_at, listed_claim_at}
use Rattle.dac_part_bytes.specs.Spelling.{how_code, from_code, manner_bytes}
use Rattle.dac_part_bytes.proofs.Apps.{app_takes, app_again}

-- ---- how an application came to its node

how_of_code : (n : ℕ) → 1 ≤ n → n ≤ 3 → n ≡ how_code (how_of n)
how_of_code zero from to = absurd (omega arith)
how_of_code (suc zero) from to = refl
how_of_code (suc (suc zero)) from to = refl
how_of_code (suc (suc (suc n))) from to = omega arith

code_of_how : (how : How) → how_of (how_code how) ≡ how
code_of_how Normal = refl
code_of_how Failover = refl
code_of_how Takeover = refl

code_from : (how : How) → 1 ≤ how_code how
code_from Normal = omega arith
code_from Failover = omega arith
code_from Takeover = omega arith

code_to : (how : How) → how_code how ≤ 3
code_to Normal = omega arith
code_to Failover = omega arith
code_to Takeover = omega arith

abbrev how_bytes : How → List ℕ
how_bytes how = u8_bytes (how_code how)

how_takes : TakesAs how_at how_bytes (λ _. Unit {0})
unfolding how_at
how_takes =
    TakesAs-made (λ r. range_at w8 1 3 r) u8_bytes (λ n. (1 ≤ n) × (n ≤ 3)) how_of how_bytes (λ _. Unit {0})
    (u8_in_takes 1 3) (λ n is. (ap u8_bytes (how_of_code n is.0 is.1), tt))

how_again : (how : How) → Again how_at (how_bytes how) how
unfolding how_at
how_again how =
    subst (λ (h : How). Again how_at (how_bytes how) h) (code_of_how how)
    (Again-made (λ r. range_at w8 1 3 r) how_of (how_bytes how) (how_code how) (u8_in_again 1 3 (omega arith) (how_code how) (code_from how) (code_to how)))

-- ---- the node that it came from

abbrev from_bytes : Option NodeId → List ℕ
from_bytes from = u8_bytes (from_code from)

from_of_code : (n : ℕ) → n ≡ from_code (from_of n)
from_of_code zero = refl
from_of_code (suc n) = omega arith

code_of_from : (from : Option NodeId) → from_of (from_code from) ≡ from
code_of_from None = refl
code_of_from (Some node) =
    let one_more : node.0 + 1 ≡ suc node.0 = omega arith in
    ap from_of one_more

some_from : (nodes n : ℕ) → n ≤ nodes → 0 < n → (node : NodeId) × (from_of n ≡ Some node) × (node.0 < nodes)
some_from nodes zero le some = absurd (omega arith)
some_from nodes (suc n) le some = (record { 0 = n }, refl, omega arith)

-- a consistent code is that of a consistent node
fits_from : (nodes : ℕ) (how : How) (n : ℕ) → n ≤ nodes → is_from_of how n ≡ true → IsConsistentOrigin nodes how (from_of n)
fits_from nodes Normal n le fits = ap from_of (eqb-true n 0 fits)
fits_from nodes Failover n le fits = some_from nodes n le (ltb-true 0 n fits)
fits_from nodes Takeover n le fits = some_from nodes n le (ltb-true 0 n fits)

some_code : (nodes : ℕ) (from : Option NodeId) → (node : NodeId) × (from ≡ Some node) × (node.0 < nodes) → (from_code from ≤ nodes) × (nat_lt 0 (from_code from) ≡ true)
some_code nodes from is =
    let same : from_code from ≡ is.0.0 + 1 = ap from_code is.1 in
    let below = is.2 in
    (omega arith, lt-ltb 0 (from_code from) (omega arith))

-- a consistent node has a consistent code
fits_code : (nodes : ℕ) (how : How) (from : Option NodeId) → IsConsistentOrigin nodes how from → (from_code from ≤ nodes) × (is_from_of how (from_code from) ≡ true)
fits_code nodes Normal from is = let same : from_code from ≡ 0 = ap from_code is in (omega arith, ap (λ n. is_from_of Normal n) same)
fits_code nodes Failover from is = some_code nodes from is
fits_code nodes Takeover from is = some_code nodes from is

module _ (nodes : ℕ) where
  from_code_takes : TakesAs (from_code_at nodes) u8_bytes (λ n. n ≤ nodes)
  unfolding from_code_at
  from_code_takes =
      let read = λ (r : Rest). number_at w8 r >>= λ n. cond (nat_lt nodes n.0) (fault BadName r) (Ok n) in
      TakesAs-more read u8_bytes (λ n. (n < 2 ^ 8) × (nat_lt nodes n ≡ false)) (λ n. n ≤ nodes)
      (TakesAs-guard (number_at w8) u8_bytes (λ n. n < 2 ^ 8) (λ n. nat_lt nodes n) BadName u8_takes) (λ n is. ltb-false nodes n is.1)

  abbrev IsManner : How × Option NodeId → Type 0
  IsManner m = IsConsistentOrigin nodes m.0 m.1

  abbrev manner : How × Option NodeId → List ℕ
  manner m = manner_bytes m.0 m.1

  module _ (how : How) where
    abbrev IsFitting : ℕ → Type 0
    IsFitting n = (n ≤ nodes) × (is_from_of how n ≡ true)

    fitting_code_takes : TakesAs (fitting_code_at nodes how) u8_bytes IsFitting
    unfolding fitting_code_at
    fitting_code_takes = TakesAs-wanted (from_code_at nodes) u8_bytes (λ n. n ≤ nodes) (is_from_of how) BadNumber from_code_takes

    from_takes : TakesAs (from_at nodes how) from_bytes (IsConsistentOrigin nodes how)
    unfolding from_at
    from_takes =
        TakesAs-made (fitting_code_at nodes how) u8_bytes IsFitting from_of from_bytes (IsConsistentOrigin nodes how)
        fitting_code_takes (λ n is. (ap u8_bytes (from_of_code n), fits_from nodes how n is.0 is.1))

  pub manner_takes : TakesAs (manner_at nodes) manner IsManner
  unfolding manner_at manner_bytes
  manner_takes =
      TakesAs-both how_at how_bytes (λ _. Unit {0}) (λ how r. from_at nodes how r) (λ _. from_bytes) (λ how from. IsConsistentOrigin nodes how from)
      (λ how from. (how, from)) manner IsManner
      how_takes (λ how _. from_takes how) (λ how from p q. (refl, q))

  module _ (one_byte_each : nodes < 2 ^ 8) where
    from_code_again : (n : ℕ) → n ≤ nodes → Again (from_code_at nodes) (u8_bytes n) n
    unfolding from_code_at
    from_code_again n le = Again-guard (number_at w8) (λ n. nat_lt nodes n) BadName (u8_bytes n) n (u8_again n (omega arith)) (le-ltb nodes n le)

    from_again : (how : How) (from : Option NodeId) → IsConsistentOrigin nodes how from → Again (from_at nodes how) (from_bytes from) from
    unfolding from_at fitting_code_at
    from_again how from is =
        let n = from_code from in
        let fits = fits_code nodes how from is in
        subst (λ (f : Option NodeId). Again (from_at nodes how) (from_bytes from) f) (code_of_from from)
        (Again-made (fitting_code_at nodes how) from_of (from_bytes from) n (Again-wanted (from_code_at nodes) (is_from_of how) BadNumber (u8_bytes n) n (from_code_again n fits.0) fits.1))

    pub manner_again : (m : How × Option NodeId) → IsManner m → Again (manner_at nodes) (manner m) m
    unfolding manner_at manner_bytes
    manner_again m is = Again-both how_at (λ how r. from_at nodes how r) (λ how from. (how, from)) (how_bytes m.0) (from_bytes m.1) m.0 m.1 (how_again m.0) (from_again m.0 m.1 is)

-- ---- a claim

regroup : (a b c d : List ℕ) → a ++ (b ++ (c ++ d)) ≡ ((a ++ b) ++ c) ++ d
regroup a b c d = sym (simp append_assoc)

abbrev claimer_bytes : Version → Origin × (How × Option NodeId) → List ℕ
claimer_bytes version c = origin_bytes version c.0 ++ manner_bytes c.1.0 c.1.1

abbrev term_and_claimer_bytes : Version → Claim → List ℕ
term_and_claimer_bytes version c = u64_bytes c.term ++ (origin_bytes version c.origin ++ manner_bytes c.how c.from)

abbrev IsClaimer : Version → ℕ → Origin × (How × Option NodeId) → Type 0
IsClaimer version nodes c = IsOrigin version nodes c.0 × IsConsistentOrigin nodes c.1.0 c.1.1

abbrev IsTermAndClaimer : Version → ℕ → Claim → Type 0
IsTermAndClaimer version nodes c = ((1 ≤ c.term) × (c.term ≤ MAX_COUNTER)) × (IsOrigin version nodes c.origin × IsConsistentOrigin nodes c.how c.from)

module _ (version : Version) (nodes : ℕ) where
  claimer_takes : TakesAs (claimer_at version nodes) (claimer_bytes version) (IsClaimer version nodes)
  unfolding claimer_at
  claimer_takes =
      TakesAs-both (origin_at version nodes) (origin_bytes version) (IsOrigin version nodes) (λ _ r. manner_at nodes r) (λ _ m. manner_bytes m.0 m.1) (λ _ m. IsConsistentOrigin nodes m.0 m.1)
      (λ origin m. (origin, m)) (claimer_bytes version) (IsClaimer version nodes)
      (origin_takes version nodes) (λ _ _. manner_takes nodes) (λ origin m p q. (refl, (p, q)))

  term_and_claimer_takes : TakesAs (term_and_claimer_at version nodes) (term_and_claimer_bytes version) (IsTermAndClaimer version nodes)
  unfolding term_and_claimer_at
  term_and_claimer_takes =
      TakesAs-both counter_at u64_bytes (λ n. (1 ≤ n) × (n ≤ MAX_COUNTER)) (λ _ r. claimer_at version nodes r) (λ _. claimer_bytes version) (λ _. IsClaimer version nodes)
      claim_of (term_and_claimer_bytes version) (IsTermAndClaimer version nodes)
      counter_takes (λ _ _. claimer_takes) (λ term c p q. (refl, (p, q)))

  module _ (one_byte_each : nodes < 2 ^ 8) where
    claimer_again : (c : Origin × (How × Option NodeId)) → IsClaimer version nodes c → Again (claimer_at version nodes) (claimer_bytes version c) c
    unfolding claimer_at
    claimer_again c is =
        Again-both (origin_at version nodes) (λ _ r. manner_at nodes r) (λ origin m. (origin, m)) (origin_bytes version c.0) (manner_bytes c.1.0 c.1.1) c.0 c.1
        (origin_again version nodes (omega arith) c.0 is.0) (manner_again nodes one_byte_each c.1 is.1)

    term_and_claimer_again : (c : Claim) → IsTermAndClaimer version nodes c → Again (term_and_claimer_at version nodes) (term_and_claimer_bytes version c) c
    unfolding term_and_claimer_at
    term_and_claimer_again c is =
        let claimer : Origin × (How × Option NodeId) = (c.origin, (c.how, c.from)) in
        Again-both counter_at (λ _ r. claimer_at version nodes r) claim_of (u64_bytes c.term) (claimer_bytes version claimer) c.term claimer
        (counter_again c.term is.0.0 is.0.1) (claimer_again claimer is.1)

module _ (version : Version) (t : Table) where
  abbrev HasFields : AppId × Claim → Type 0
  HasFields e = (e.0.0 < app_count t) × IsTermAndClaimer version (node_count t) e.1

  abbrev is_claimer_listed : AppId × Claim → Bool
  is_claimer_listed e = is_listed t e.0 e.1.origin.node

  abbrev is_app_above : Option AppId → AppId × Claim → Bool
  is_app_above before e = is_above app_cmp before e.0

  claim_fields_takes : TakesAs (claim_fields_at version t) (claim_bytes version) HasFields
  unfolding claim_fields_at claim_bytes
  claim_fields_takes =
      TakesAs-both (app_at (app_count t)) app_bytes (λ app. app.0 < app_count t) (λ _ r. term_and_claimer_at version (node_count t) r) (λ _. term_and_claimer_bytes version) (λ _. IsTermAndClaimer version (node_count t))
      (λ app claim. (app, claim)) (claim_bytes version) HasFields
      (app_takes (app_count t)) (λ _ _. term_and_claimer_takes version (node_count t))
      (λ app c p q. (regroup (u16_bytes app.0) (u64_bytes c.term) (origin_bytes version c.origin) (manner_bytes c.how c.from), (p, q)))

  listed_claim_takes : TakesAs (listed_claim_at version t) (claim_bytes version) (λ e. HasFields e × (is_claimer_listed e ≡ true))
  unfolding listed_claim_at
  listed_claim_takes = TakesAs-wanted (claim_fields_at version t) (claim_bytes version) HasFields is_claimer_listed NotInList claim_fields_takes

  has_all : (e : AppId × Claim) → HasFields e × (is_claimer_listed e ≡ true) → IsClaimInForm version t e
  has_all e is = record { app = is.0.0; first = is.0.1.0.0; last = is.0.1.0.1; origin = is.0.1.1.0; listed = is.1; from = is.0.1.1.1 }

  -- A claim that is read is well-formed, with these bytes as its spelling, and its application is greater than the
  -- previous one.
  pub claim_takes : (before : Option AppId) → TakesAs (claim_at version t before) (claim_bytes version) (IsNext app_cmp (λ (e : AppId × Claim). e.0) (IsClaimInForm version t) before)
  unfolding claim_at
  claim_takes before =
      let read = λ (r : Rest). listed_claim_at version t r >>= λ e. cond (is_app_above before e.0) (Ok e) (fault BadOrder r) in
      TakesAs-more read (claim_bytes version) (λ e. (HasFields e × (is_claimer_listed e ≡ true)) × (is_app_above before e ≡ true)) (IsNext app_cmp (λ (e : AppId × Claim). e.0) (IsClaimInForm version t) before)
      (TakesAs-wanted (listed_claim_at version t) (claim_bytes version) (λ e. HasFields e × (is_claimer_listed e ≡ true)) (is_app_above before) BadOrder listed_claim_takes) (λ e is. (has_all e is.0, is.1))

  module _ (nodes_fit : node_count t < 2 ^ 8) (apps_fit : app_count t ≤ 2 ^ 16) where
    claim_fields_again : (e : AppId × Claim) → IsClaimInForm version t e → Again (claim_fields_at version t) (claim_bytes version e) e
    unfolding claim_fields_at claim_bytes
    claim_fields_again e is =
        let c = e.1 in
        subst (λ (text : List ℕ). Again (claim_fields_at version t) text e) (regroup (u16_bytes e.0.0) (u64_bytes c.term) (origin_bytes version c.origin) (manner_bytes c.how c.from))
        (Again-both (app_at (app_count t)) (λ _ r. term_and_claimer_at version (node_count t) r) (λ app claim. (app, claim)) (app_bytes e.0) (term_and_claimer_bytes version c) e.0 c
        (app_again (app_count t) apps_fit e.0 is.app) (term_and_claimer_again version (node_count t) nodes_fit c ((is.first, is.last), (is.origin, is.from))))

    -- A well-formed claim is read from its spelling.
    pub claim_again : (before : Option AppId) (e : AppId × Claim) → IsNext app_cmp (λ (e : AppId × Claim). e.0) (IsClaimInForm version t) before e → Again (claim_at version t before) (claim_bytes version e) e
    unfolding claim_at listed_claim_at
    claim_again before e is =
        Again-wanted (listed_claim_at version t) (is_app_above before) BadOrder (claim_bytes version e) e
        (Again-wanted (claim_fields_at version t) is_claimer_listed NotInList (claim_bytes version e) e (claim_fields_again e is.0) is.0.listed) is.1
