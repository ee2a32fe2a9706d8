-- Verdicts over the meanings of sets of operations have the properties that rounds rely on.
use Rattle.std.proofs.Common.{◌≡◌, ◌⊎◌, ℕ, ◌+◌, ◌<◌, ◌≤◌, true, List, Option, Some, None, option_map, refl, sym, ap, subst, ◌∙◌, arith, inl, inr}
use Rattle.dac_settle.specs.laws.Common.{unwrap_or, IsSome, option_map_or, Ordering, false≢true, NodeId, AppId, IsAtMost, chain_laws, IsGreatest, claim_cmp, Lives, IsLive, live_at, live_is, Operation, IsOperationOf, meaning_of, claim_said, meaning-same, SaysFor, Table, IsStartedAt, IsAllowedAt, key_at, verdict_of, candidate_of, MayRunAlike, alike_back, IsGrown, IsPlacement, IsGood, here, placed}
use Rattle.std.specs.Option.{is_some}
use Rattle.std.specs.Ordering.{nat_cmp, ordering_then, is_le, MatchOrdering}
use Rattle.std.specs.declared.cmp.Ordering.TheVariants.{Less, Equal, Greater}
use Rattle.std.specs.FinMap as map
use Rattle.std.proofs.lemmas.Cmp.{ranked}
use Rattle.dac_chains.specs.declared.claims.Claim.{Claim}
use Rattle.dac_chains.specs.Claims.{how_cmp}
use Rattle.dac_chains.specs.laws.Claims.{claims_total, exact_hows, exact_claims}
use Rattle.dac_placement.specs.laws.Rests.{candidate_is}
use Rattle.dac_commands.specs.Commands.{next_term}
use Rattle.dac_ticks.specs.laws.Claimed.{claimed_as}
use Rattle.dac_settle.specs.laws.AnyPlacement.{one}
use Rattle.dac_settle.specs.laws.LeftAlone.{fit_alike, left_if, if_left, left_alike}
use Rattle.dac_settle.specs.laws.OnlyClaims.{AddsClaims, alike, claim_greatest, said_is_claim}

-- ---- terms

le_then : (a b : ℕ) (o p : Ordering) → MatchOrdering p (a < b) (a ≡ b) (b < a) → is_le (ordering_then p o) ≡ true → a ≤ b
le_then a b o Less m e = omega arith
le_then a b o Equal m e = omega arith
le_then a b o Greater m e = absurd (false≢true e)

-- a greater claim has no lesser term
terms_at_most : (a b : Claim) → IsAtMost claim_cmp a b → a.term ≤ b.term
terms_at_most a b h = le_then a.term b.term _ (nat_cmp a.term b.term) (ranked a.term b.term (nat_cmp a.term b.term) refl) h

-- the term of the next claim after the greatest
abbrev term_after : Option Claim → ℕ
term_after c = option_map_or (λ (x : Claim). x.term) c 0 + 1

some_none : {X : Type 0} {v : X} {Y : Type 0} → ◌≡◌ {A = Option X} (Some v) None → Y
some_none e = cc

is_inc : (o : Option ℕ) (inc : ℕ) → o ≡ Some inc → o ≡ Some (unwrap_or o 0)
is_inc None inc e = some_none (sym e)
is_inc (Some i) inc e = refl

-- at most one incarnation of a node is live
pub one_inc : (lives : Lives) (n : NodeId) (a b : ℕ) → IsLive lives n a → IsLive lives n b → a ≡ b
one_inc lives n a b p q = one (sym ((live_is lives n a).1 p) ∙ (live_is lives n b).1 q)

module _ (t : Table) where
  -- a live incarnation is the one that `here` gives
  pub live_here : (x : List Operation) (n : NodeId) (inc : ℕ) → IsLive (meaning_of x).lives n inc → IsLive (meaning_of x).lives n (here n x).inc
  live_here x n inc alive =
      let lives = (meaning_of x).lives in
      (live_is lives n (here n x).inc).0 (is_inc (live_at lives n) inc ((live_is lives n inc).1 alive))

  -- ---- sets in a round

  module _ (s x : List Operation) (g : IsGrown (placed t) s x) where
    adds : AddsClaims s x
    adds = record {
      keeps = g.keeps;
      new = λ o i. elim (g.new o i) [
        | inl old ↦ inl old
        | inr well ↦ inr (said_is_claim o.dot o.act (well.0, well.2.claim) well.2.says)
      ];
    }

    pub grown_alike : MayRunAlike (meaning_of x) (meaning_of s)
    grown_alike = alike s x adds

    pub alike_grown : MayRunAlike (meaning_of s) (meaning_of x)
    alike_grown = alike_back (meaning_of x) (meaning_of s) grown_alike

    module _ (app : AppId) where
      -- a good claim of the application is the greatest
      pub record IsTaken : Type 0 where
        pub by : Operation
        pub there : IsOperationOf by x
        pub good : IsGood t s app by
        pub greatest : map.get (meaning_of x).claims app ≡ Some good.claim

      same_said : {b : AppId} {c d : Claim} → ◌≡◌ {A = Option (AppId × Claim)} (Some (app, c)) (Some (b, d)) → (app ≡ b) × (c ≡ d)
      same_said {b = b} {c = c} {d = d} e = let pair : ◌≡◌ {A = AppId × Claim} (app, c) (b, d) = one e in (ap (λ (p : AppId × Claim). p.0) pair, ap (λ (p : AppId × Claim). p.1) pair)

      kept : (c : Claim) → SaysFor claim_said s app c → SaysFor claim_said x app c
      kept c says = (says.0, (g.keeps says.0 says.1.0, says.1.1))

      taken : (c : Claim) (o : Operation) → map.get (meaning_of x).claims app ≡ Some c → IsOperationOf o x → IsGood t s app o → claim_said o.dot o.act ≡ Some (app, c) → IsTaken
      taken c o is there good says = record { by = o; there = there; good = good; greatest = is ∙ ap (λ d. Some d) (same_said (sym says ∙ good.says)).1 }

      old_greatest : (c : Claim) (d : Option Claim) → IsGreatest claim_cmp (SaysFor claim_said x app) (Some c) → IsGreatest claim_cmp (SaysFor claim_said s app) d → SaysFor claim_said s app c → Some c ≡ d
      old_greatest c None now before says = absurd (before c says)
      old_greatest c (Some d) now before says = ap (λ z. Some z) ((chain_laws claims_total (exact_claims how_cmp exact_hows)).antisymm c d tt tt (before.1 c says) (now.1 d (kept d before.0)))

      by_greatest : (c d : Option Claim) → map.get (meaning_of x).claims app ≡ c → IsGreatest claim_cmp (SaysFor claim_said x app) c → IsGreatest claim_cmp (SaysFor claim_said s app) d → (c ≡ d) ⊎ IsTaken
      by_greatest None None is now before = inl refl
      by_greatest None (Some d) is now before = absurd (now d (kept d before.0))
      by_greatest (Some c) d is now before = elim (g.new now.0.0 now.0.1.0) [
        | inr well ↦
            let same = same_said (sym now.0.1.1 ∙ well.2.says) in
            let good : IsGood t s app now.0.0 = subst (λ b. IsGood t s b now.0.0) (sym same.0) well.2 in
            inr (taken c now.0.0 is now.0.1.0 good now.0.1.1)
        | inl old ↦ inl (old_greatest c d now before (now.0.0, (old, now.0.1.1)))
      ]

      -- the greatest claim is that of s, or a good one
      pub claims_cases : (map.get (meaning_of x).claims app ≡ map.get (meaning_of s).claims app) ⊎ IsTaken
      claims_cases = by_greatest (map.get (meaning_of x).claims app) (map.get (meaning_of s).claims app) refl (claim_greatest x app) (claim_greatest s app)

      -- if a good claim is the greatest, it settles the application
      pub taken_settles : IsTaken → (placed t).candidate x app ≡ None
      taken_settles taken =
          let u = meaning_of x in
          let o = taken.good.claim.origin in
          let fit = fit_alike t (meaning_of s) u alike_grown app o taken.good.fit in
          let same = one_inc u.lives o.node fit.eligible.inc o.inc fit.eligible.live fit.live in
          if_left t u app (inr (
            o,
            ap (option_map (λ (c : Claim). c.origin)) taken.greatest,
            (fit.live, inr (subst (λ inc. IsStartedAt u (key_at app o.node inc)) same fit.eligible.started, subst (λ inc. IsAllowedAt t u (key_at app o.node inc)) same fit.eligible.allowed, fit.earliest)),
          ))

      pub stays : (placed t).candidate s app ≡ None → (placed t).candidate x app ≡ None
      stays none = elim claims_cases [
        | inl same ↦ if_left t (meaning_of x) app (left_alike t (meaning_of s) (meaning_of x) alike_grown app (ap (option_map (λ (c : Claim). c.origin)) (sym same)) (left_if t (meaning_of s) app none))
        | inr taken ↦ absurd (false≢true (sym (ap is_some none) ∙ taken.good.open_app))
      ]

      -- if a good claim is in the set, one is the greatest, because its term is above that of each claim of s
      pub taken_if : (o : Operation) → IsOperationOf o x → IsGood t s app o → IsTaken
      taken_if o there good = elim claims_cases [
        | inl same ↦ absurd (above (map.get (meaning_of x).claims app) (claim_greatest x app) (good.next ∙ ap term_after (sym same)))
        | inr taken ↦ taken
      ]
        where
          past : (a b : ℕ) → a ≤ b → a ≡ b + 1 → ⊥
          past a b le e = omega arith

          above : (c : Option Claim) → IsGreatest claim_cmp (SaysFor claim_said x app) c → good.claim.term ≡ term_after c → ⊥
          above None greatest e = greatest good.claim (o, (there, good.says))
          above (Some c) greatest e = past good.claim.term c.term (terms_at_most good.claim c (greatest.1 good.claim (o, (there, good.says)))) e

      -- an application claimed at its set wasn't settled
      was_open : (n : NodeId) → (placed t).candidate x app ≡ Some n → (o : Option NodeId) → (placed t).candidate s app ≡ o → IsSome o
      was_open n is None e = some_none (sym is ∙ stays e)
      was_open n is (Some m) e = refl

      pub well : (n : NodeId) → (placed t).candidate x app ≡ Some n → IsGood t s app ((placed t).claim n x app)
      well n is = elim claims_cases [
        | inr taken ↦ some_none (sym is ∙ taken_settles taken)
        | inl same ↦
            let u = meaning_of x in
            let first = candidate_is t u app n is in
            let claimed = claimed_as u app (verdict_of t u app) in
            let o = (placed t).claim n x app in
            record {
              open_app = was_open n is ((placed t).candidate s app) refl;
              claim = record { term = next_term u app; origin = here n x; how = claimed.0; from = claimed.1 };
              says = ap (claim_said o.dot) claimed.2;
              next = ap term_after same;
              fit = fit_alike t u (meaning_of s) grown_alike app (here n x) (record { eligible = first.eligible; earliest = first.earliest; live = live_here x n first.eligible.inc first.eligible.live });
            }
      ]

  -- ---- the properties of placement

  pub is_placement : IsPlacement (placed t)
  is_placement = record {
    alike = λ x y app to back. ap (λ u. candidate_of (verdict_of t u app)) (meaning-same x y to back);
    live = λ x app n is. let first = candidate_is t (meaning_of x) app n is in (first.eligible.inc, first.eligible.live);
    lives = λ s x n g alive. (alive.0, subst (λ (l : Lives). IsLive l n alive.0) (grown_alike s x g).lives alive.1);
    stays = λ s x app g none. stays s x g app none;
    unsettled = λ s app o good. good.open_app;
    settles = λ s x app o g there good. taken_settles s x g app (taken_if s x g app o there good);
    well = λ s x app n g is. well s x g app n is;
  }
