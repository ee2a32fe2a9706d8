-- Claims change only the claims of a meaning, and its heard and known dots.
use Rattle.std.proofs.Common.{◌≡◌, ◌⊎◌, ℕ, Bool, true, false, not, cond, ◌&&◌, List, Option, Some, None, refl, sym, ap, subst, ◌∙◌, inl, inr}
use Rattle.dac_settle.specs.laws.Common.{Ordering, false≢true, true≢false, NodeId, AppId, Dot, chain_laws, IsGreatest, IsSaid, claim_cmp, origin_cmp, Operation, operation, IsOperationOf, AreOperationsOf, meaning_of, replaces, pairs, life_said, claim_said, found, finds, starts-meaning, permits-meaning, drains-meaning, lives-meaning, lives_are, claims-meaning, claims_are, SaysFor, of_said, is_said, MayRunAlike}
use Rattle.std.specs.Cmp.{IsTotalOrder}
use Rattle.std.specs.List.{list_any}
use Rattle.std.specs.FinSet as set
use Rattle.std.specs.FinMap as map
use Rattle.std.proofs.lemmas.Map.Lookups.{CmpEqualImpliesEq}
use Rattle.dac_base.specs.laws.Ids.{nodes_total, exact_nodes}
use Rattle.dac_lattice.specs.Flags.{flag_cmp}
use Rattle.dac_lattice.specs.laws.Flags.{flags_exact}
use Rattle.dac_store.specs.laws.Stores.{both_ways}
use Rattle.dac_chains.specs.declared.claims.Claim.{Claim as ClaimValue}
use Rattle.dac_chains.specs.declared.claims.How.{How}
use Rattle.dac_chains.specs.laws.Lives.{lives_total, exact_lives}
use Rattle.dac_origins.specs.laws.Dots.{origins_total, exact_origins}
use Rattle.dac_wishes.specs.Keys.{key_cmp}
use Rattle.dac_wishes.specs.KeyedWrites.{KeyedWrite}
use Rattle.dac_wishes.specs.laws.KeyedWrites.{keyed_writes_total, exact_keyed_writes}
use Rattle.dac_wishes.specs.Writes.{Write}
use Rattle.dac_wishes.specs.laws.Writes.{writes_total, exact_writes}
use Rattle.dac_operations.specs.declared.act.Act.{Act}
use Rattle.dac_operations.specs.declared.act.Act.TheVariants.{Up, Down, Permit, Start, Stop, Drain, Claim}
use Rattle.dac_meaning.specs.Meaning.{has_dot, is_start, vote_says, is_vote, vote_at, permit_vote, drain_vote, flag_written}

-- the act is a claim
abbrev pub is_claim : Act → Bool
is_claim (Claim app term how from) = true
is_claim _ = false

-- x consists of s and of claims
pub record AddsClaims (s x : List Operation) : Type 0 where
  pub keeps : AreOperationsOf s x
  pub new : (o : Operation) → IsOperationOf o x → IsOperationOf o s ⊎ (is_claim o.act ≡ true)

-- ---- other acts

-- a property of every claim holds of an act that is one
by_claim : (P : Act → Type 0) → ((app : AppId) (term : ℕ) (how : How) (from : Option NodeId) → P (Claim app term how from)) → (a : Act) → is_claim a ≡ true → P a
by_claim P all Up h = absurd (false≢true h)
by_claim P all (Down node inc) h = absurd (false≢true h)
by_claim P all (Permit key value over) h = absurd (false≢true h)
by_claim P all (Start key over) h = absurd (false≢true h)
by_claim P all (Stop key over) h = absurd (false≢true h)
by_claim P all (Drain node inc value over) h = absurd (false≢true h)
by_claim P all (Claim app term how from) h = all app term how from

no_replacing : (d e : Dot) (a : Act) → is_claim a ≡ true → replaces d (operation e a) ≡ false
no_replacing d e a h = by_claim (λ b. replaces d (operation e b) ≡ false) (λ app term how from. refl) a h

no_start : (w : Write) (e : Dot) (a : Act) → is_claim a ≡ true → is_start w (operation e a) ≡ false
no_start w e a h = by_claim (λ b. is_start w (operation e b) ≡ false) (λ app term how from. refl) a h

-- a claim is no vote
no_permit : (a : Act) → is_claim a ≡ true → permit_vote a ≡ None
no_permit a h = by_claim (λ b. permit_vote b ≡ None) (λ app term how from. refl) a h

no_drain : (a : Act) → is_claim a ≡ true → drain_vote a ≡ None
no_drain a h = by_claim (λ b. drain_vote b ≡ None) (λ app term how from. refl) a h

no_life : (e : Dot) (a : Act) → is_claim a ≡ true → life_said e a ≡ None
no_life e a h = by_claim (λ b. life_said e b ≡ None) (λ app term how from. refl) a h

-- an act that says a claim is one
pub said_is_claim : (e : Dot) (a : Act) (said : AppId × ClaimValue) → claim_said e a ≡ Some said → is_claim a ≡ true
said_is_claim e Up said h = cc
said_is_claim e (Down node inc) said h = cc
said_is_claim e (Permit key value over) said h = cc
said_is_claim e (Start key over) said h = cc
said_is_claim e (Stop key over) said h = cc
said_is_claim e (Drain node inc value over) said h = cc
said_is_claim e (Claim app term how from) said h = refl

-- ---- greatest values

-- two equivalent properties have one greatest value
one_greatest : {T : Type 0} {cmp : T → T → Ordering} → IsTotalOrder cmp → CmpEqualImpliesEq cmp → (P Q : T → Type 0) (x y : Option T) → ((v : T) → P v → Q v) → ((v : T) → Q v → P v) → IsGreatest cmp P x → IsGreatest cmp Q y → x ≡ y
one_greatest o exact P Q None None to back g h = refl
one_greatest o exact P Q None (Some w) to back g h = absurd (g w (back w h.0))
one_greatest o exact P Q (Some v) None to back g h = absurd (h v (to v g.0))
one_greatest o exact P Q (Some v) (Some w) to back g h = ap (λ z. Some z) ((chain_laws o exact).antisymm v w tt tt (h.1 v (to v g.0)) (g.1 w (back w h.0)))

-- ---- the parts

module _ (s x : List Operation) (adds : AddsClaims s x) where
  any_alike : (p : Operation → Bool) → ((o : Operation) → is_claim o.act ≡ true → p o ≡ false) → list_any p x ≡ list_any p s
  any_alike p none = both_ways (list_any p x) (list_any p s)
      (λ h. let f = found p x h in elim (adds.new f.0 f.1.0) [
        | inl old ↦ finds p s f.0 old f.1.1
        | inr new ↦ absurd (true≢false (sym f.1.1 ∙ none f.0 new))
      ])
      (λ h. let f = found p s h in finds p x f.0 (adds.keeps f.0 f.1.0) f.1.1)

  replaced_alike : (d : Dot) → list_any (replaces d) x ≡ list_any (replaces d) s
  replaced_alike d = any_alike (replaces d) (λ o c. no_replacing d o.dot o.act c)

  starts_alike : (meaning_of x).starts ≡ (meaning_of s).starts
  starts_alike = set.same_set writes_total exact_writes _ _ (λ w.
      starts-meaning x w
      ∙ (λ i. any_alike (is_start w) (λ o c. no_start w o.dot o.act c) i && not (replaced_alike w.dot i))
      ∙ sym (starts-meaning s w))

  vote_alike : {K : Type 0} (R : K → K → Ordering) (vote : Act → Option (K × Bool)) (down : Bool) → ((a : Act) → is_claim a ≡ true → vote a ≡ None) → (w : KeyedWrite K) → vote_at R vote down x w ≡ vote_at R vote down s w
  vote_alike R vote down none w =
      let no_vote = λ (v : Bool) (o : Operation) (c : is_claim o.act ≡ true). ap (λ u. vote_says R w.key v u && has_dot w.dot o) (none o.act c) in
      λ i. cond (replaced_alike w.dot i) None (flag_written (any_alike (is_vote R vote w down) (no_vote down) i) (any_alike (is_vote R vote w (not down)) (no_vote (not down)) i))

  permits_alike : (meaning_of x).permits ≡ (meaning_of s).permits
  permits_alike = map.same_map writes_total exact_writes _ _ (λ w. permits-meaning x w ∙ vote_alike key_cmp permit_vote false no_permit w ∙ sym (permits-meaning s w))

  drains_alike : (meaning_of x).drains ≡ (meaning_of s).drains
  drains_alike = map.same_map (keyed_writes_total origins_total) (exact_keyed_writes exact_origins) _ _ (λ w. drains-meaning x w ∙ vote_alike origin_cmp drain_vote true no_drain w ∙ sym (drains-meaning s w))

  none_some : {X : Type 0} {v : X} {Y : Type 0} → ◌≡◌ {A = Option X} None (Some v) → Y
  none_some e = cc

  lives_alike : (meaning_of x).lives ≡ (meaning_of s).lives
  lives_alike = lives-meaning x ∙ map.same_map nodes_total exact_nodes _ _ (λ n.
      one_greatest lives_total (exact_lives flag_cmp flags_exact) (IsSaid life_said (pairs x) n) (IsSaid life_said (pairs s) n) _ _
      (λ l said. let o = of_said life_said x n l said in elim (adds.new o.0 o.1.0) [
        | inl old ↦ is_said life_said s n l (o.0, (old, o.1.1))
        | inr new ↦ none_some (sym (no_life o.0.dot o.0.act new) ∙ o.1.1)
      ])
      (λ l said. let o = of_said life_said s n l said in is_said life_said x n l (o.0, (adds.keeps o.0 o.1.0, o.1.1)))
      (lives_are x n) (lives_are s n)) ∙ sym (lives-meaning s)

  -- both sets mean the same lives, permits, starts and drains
  pub alike : MayRunAlike (meaning_of x) (meaning_of s)
  alike = record { lives = lives_alike; permits = permits_alike; starts = starts_alike; drains = drains_alike }

-- the claim of an application is the greatest of its claims
pub claim_greatest : (x : List Operation) (app : AppId) → IsGreatest claim_cmp (SaysFor claim_said x app) (map.get (meaning_of x).claims app)
claim_greatest x app =
    by_said (map.get (meaning_of x).claims app) (subst (λ m. IsGreatest claim_cmp (IsSaid claim_said (pairs x) app) (map.get m app)) (sym (claims-meaning x)) (claims_are x app))
  where
    by_said : (c : Option ClaimValue) → IsGreatest claim_cmp (IsSaid claim_said (pairs x) app) c → IsGreatest claim_cmp (SaysFor claim_said x app) c
    by_said None g = λ v says. g v (is_said claim_said x app v says)
    by_said (Some c) g = (of_said claim_said x app c g.0, λ v says. g.1 v (is_said claim_said x app v says))
