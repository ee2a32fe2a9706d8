-- A claim changes only the greatest claim of its application, and the dots heard and known; no life, permit or start.
use Rattle.std.proofs.Common.{◌≡◌, ℕ, ◌+◌, ◌≤◌, Bool, true, false, not, cond, ◌&&◌, ◌||◌, [], ◌∷◌, Option, None, Some, refl, sym, ap, subst, ◌∙◌, arith, inl, inr}
use Rattle.dac_ticks.specs.laws.Common.{option_map_or, eq_by_cmp, is_eq, false≢true, false_from_ne_true, and_parts, and_from, tied_itself, AppId, NodeId, Origin, Dot, dot, Flag, How, Act, Operation, StateValue, IsState, join, permissions_of, meaning_of, Verdict, Failover, Halted, Move, Kept, Nobody, greatest_counter, claim_act, next_operation, counter-greatest, claimed_by}
use Rattle.std.specs.Prelude.{is_some}
use Rattle.std.specs.declared.cmp.Ordering.{Ordering}
use Rattle.std.specs.declared.cmp.Ordering.TheVariants.{Greater}
use Rattle.std.specs.Ordering.{nat_cmp, ordering_then, is_lt, ord_max}
use Rattle.std.specs.Cmp.{IsTotalOrder, Equal-is, both_ways, nat_cmp_is}
use Rattle.std.proofs.lemmas.Map.Lookups.{CmpEqualImpliesEq}
use Rattle.std.specs.FinSet as set
use Rattle.std.specs.FinMap as map
use Rattle.std.proofs.lemmas.Bool.{or_cases, or_left}
use Rattle.dac_base.specs.Ids.{app_cmp}
use Rattle.dac_base.specs.laws.Ids.{apps_total, exact_apps, nodes_total, exact_nodes}
use Rattle.dac_origins.specs.laws.Dots.{origins_total, exact_origins}
use Rattle.dac_lattice.specs.Flags.{flag_cmp}
use Rattle.dac_lattice.specs.laws.Flags.{flags_exact}
use Rattle.dac_lattice.specs.laws.Joins.{join_bottom}
use Rattle.dac_lattice.specs.Lattices.{join_options}
use Rattle.dac_chains.specs.declared.claims.Claim.{Claim}
use Rattle.dac_chains.specs.declared.claims.How.TheVariants.{Normal, Failover as FailedOver, Takeover as TakenOver}
use Rattle.dac_chains.specs.Greatest.{alone, greater}
use Rattle.dac_chains.specs.laws.Greatest.{empty_is_least, get-greater}
use Rattle.dac_chains.specs.declared.lives.LifeAct.TheVariants.{Other as NoLife}
use Rattle.dac_chains.specs.Lives.{life_cmp, life_report}
use Rattle.dac_chains.specs.laws.Lives.{lives_total, exact_lives}
use Rattle.dac_chains.specs.Claims.{claim_cmp, how_cmp}
use Rattle.dac_chains.specs.laws.Claims.{claims_total, exact_hows, exact_claims}
use Rattle.dac_wishes.specs.Writes.{Write}
use Rattle.dac_wishes.specs.laws.KeyedWrites.{same_dot_is, keyed_writes_total, exact_keyed_writes}
use Rattle.dac_wishes.specs.laws.Writes.{writes_total, exact_writes}
use Rattle.dac_wishes.specs.WishesValue.{WishesValue, may_stand}
use Rattle.dac_wishes.specs.laws.WishesValue.{standing-join as standing-wishes}
use Rattle.dac_wishes.specs.PermissionsValue.{PermissionsValue}
use Rattle.dac_wishes.specs.laws.Keys.{keys_total, exact_keys}
use Rattle.dac_wishes.specs.KeyedWrites.{KeyedWrite}
use Rattle.dac_wishes.specs.Votes.{VotesValue, joined_vote, join_votes}
use Rattle.dac_wishes.specs.laws.Votes.{standing-join_votes}
use Rattle.dac_wishes.specs.DrainsValue.{DrainsValue, DrainWrite}
use Rattle.dac_operations.specs.Seen.{seen_life}
use Rattle.dac_meaning.specs.StateValue.{wishes_of, drains_of}
use Rattle.dac_meaning.specs.laws.StateLaws.{state_laws, life_laws, lives-join, claims-join, wishes-join, permissions-join, drains-join}
use Rattle.dac_meaning.specs.Meaning.{life_said, claim_said, is_replaced}
use Rattle.dac_meaning.specs.laws.Chained.{greatest-one}
use Rattle.dac_meaning.specs.laws.Joins.{meaning-state}
use Rattle.dac_meaning.specs.laws.Readers.{starts-meaning, permits-meaning, drains-meaning, lives-meaning, claims-meaning}
use Rattle.dac_placement.specs.declared.verdicts.Verdict.TheVariants.{Start, Takeover}
use Rattle.dac_commands.specs.Commands.{next_term}
use Rattle.dac_ticks.specs.Ticks.{held_by}
use Rattle.dac_ticks.specs.laws.Counters.{known_alone}

-- the states are equal except for dots and claims, so that the same nodes are eligible
pub record MayRunAlike (s t : StateValue) : Type 0 where
  pub lives : s.lives ≡ t.lives
  pub permits : s.permits ≡ t.permits
  pub starts : s.starts ≡ t.starts
  pub drains : s.drains ≡ t.drains

pub alike_itself : (s : StateValue) → MayRunAlike s s
alike_itself s = record { lives = refl; permits = refl; starts = refl; drains = refl }

pub alike_through : (s t u : StateValue) → MayRunAlike s t → MayRunAlike t u → MayRunAlike s u
alike_through s t u a b = record { lives = a.lives ∙ b.lives; permits = a.permits ∙ b.permits; starts = a.starts ∙ b.starts; drains = a.drains ∙ b.drains }

pub alike_back : (s t : StateValue) → MayRunAlike s t → MayRunAlike t s
alike_back s t a = record { lives = sym a.lives; permits = sym a.permits; starts = sym a.starts; drains = sym a.drains }

-- votes stay if they are joined with no votes, and without knowledge of their dots
module _ {K : Type 0} {R : K → K → Ordering} (total : IsTotalOrder R) (exact : CmpEqualImpliesEq R) (x y : VotesValue R) (none : (w : KeyedWrite K) → map.get y.standing w ≡ None)
    (apart : (w : KeyedWrite K) → is_some (map.get x.standing w) ≡ true → set.contains y.known w.dot ≡ false) where
  vote_by : (w : KeyedWrite K) (old : Option Flag) → map.get x.standing w ≡ old → joined_vote R x y w old None ≡ old
  vote_by w None at = refl
  vote_by w (Some f) at = ap (λ b. cond b None (Some f)) (apart w (ap is_some at))

  votes_stay : (join_votes R x y).standing ≡ x.standing
  votes_stay = map.same_map (keyed_writes_total total) (exact_keyed_writes exact) (join_votes R x y).standing x.standing (λ w.
      standing-join_votes total exact x y w ∙ ap (joined_vote R x y w (map.get x.standing w)) (none w) ∙ vote_by w (map.get x.standing w) refl)

-- an operation that doesn't concern a life leaves all lives unchanged
module _ (own : Origin) (s : StateValue) (act : Act) (silent : seen_life act ≡ NoLife) where
  abbrev silent_meaning : StateValue
  silent_meaning = meaning_of (next_operation s own act ∷ [])

  no_lives : silent_meaning.lives ≡ map.empty
  no_lives =
      lives-meaning (next_operation s own act ∷ [])
      ∙ sym (greatest-one nodes_total exact_nodes lives_total (exact_lives flag_cmp flags_exact) life_said (next_operation s own act))
      ∙ ap (λ seen. alone (life_report (dot own (greatest_counter own s.known + 1)) seen)) silent

  pub lives_stay : (join s silent_meaning).lives ≡ s.lives
  lives_stay =
      lives-join s silent_meaning ∙ ap (greater life_cmp s.lives) no_lives
      ∙ join_bottom life_laws map.empty tt (λ x u. empty_is_least nodes_total exact_nodes lives_total (exact_lives flag_cmp flags_exact) x) s.lives tt

module _ (own : Origin) (s : StateValue) (app : AppId) (how : How) (from : Option NodeId) where
  abbrev o : Operation
  o = next_operation s own (claim_act s app how from)

  abbrev m : StateValue
  m = meaning_of (o ∷ [])

  abbrev after : StateValue
  after = join s m

  -- the claim that the operation makes
  abbrev claim : Claim
  claim = record { term = next_term s app; origin = own; how = how; from = from }

  abbrev next : Dot
  next = dot own (greatest_counter own s.known + 1)

  lives_after : after.lives ≡ s.lives
  lives_after = lives_stay own s (claim_act s app how from) refl

  -- ---- no start, no permit and no drain

  above : (g : ℕ) → g + 1 ≤ g → ⊥
  above g h = omega arith

  -- the next dot isn't known
  apart : (d : Dot) → set.contains s.known d ≡ true → set.contains m.known d ≡ false
  apart d known = false_from_ne_true (set.contains m.known d) (λ h.
      let same : d ≡ next = same_dot_is d next (sym (known_alone own s (claim_act s app how from) refl d) ∙ h) in
      above (greatest_counter own s.known) (counter-greatest s.known next (subst (λ e. set.contains s.known e ≡ true) same known)))

  no_start : (w : Write) → set.contains m.starts w ≡ false
  no_start w = starts-meaning (o ∷ []) w

  abbrev old_stays : Write → Bool
  old_stays w = set.contains s.starts w && may_stand (wishes_of m) w

  abbrev new_stays : Write → Bool
  new_stays w = set.contains m.starts w && may_stand (wishes_of s) w

  module _ (is : IsState s) where
    start_after : (w : Write) → set.contains after.starts w ≡ set.contains s.starts w
    start_after w =
        ap (λ (v : WishesValue). set.contains v.standing w) (wishes-join s m) ∙ standing-wishes (wishes_of s) (wishes_of m) w
        ∙ both_ways (old_stays w || new_stays w) (set.contains s.starts w)
        (λ h. elim (or_cases (old_stays w) (new_stays w) h) [
          | inl old ↦ (and_parts (set.contains s.starts w) (may_stand (wishes_of m) w) old).0
          | inr new ↦ absurd (false≢true (sym (no_start w) ∙ (and_parts (set.contains m.starts w) (may_stand (wishes_of s) w) new).0))
        ])
        (λ h. or_left (old_stays w) (new_stays w) (and_from (set.contains s.starts w) (may_stand (wishes_of m) w) h (λ i. no_start w i || not (apart w.dot (is.starts w h) i))))

    unsaid : (b : Bool) → ◌≡◌ {A = Option Flag} (cond b None None) None
    unsaid true = refl
    unsaid false = refl

    no_permit : (w : Write) → map.get m.permits w ≡ None
    no_permit w = permits-meaning (o ∷ []) w ∙ unsaid (is_replaced w.dot (o ∷ []))

    no_drain : (w : DrainWrite) → map.get m.drains w ≡ None
    no_drain w = drains-meaning (o ∷ []) w ∙ unsaid (is_replaced w.dot (o ∷ []))

    pub claim_alike : MayRunAlike s after
    claim_alike = record {
      lives = sym lives_after;
      permits = sym (ap (λ (v : PermissionsValue). v.standing) (permissions-join s m) ∙ votes_stay keys_total exact_keys (permissions_of s) (permissions_of m) no_permit (λ w h. apart w.dot (is.permits w h)));
      starts = sym (set.same_set writes_total exact_writes after.starts s.starts start_after);
      drains = sym (ap (λ (v : DrainsValue). v.standing) (drains-join s m) ∙ votes_stay origins_total exact_origins (drains_of s) (drains_of m) no_drain (λ w h. apart w.dot (is.drains w h)));
    }

    pub claim_state : IsState after
    claim_state = state_laws.closed s m is (meaning-state (o ∷ []))

  -- ---- the greatest claims

  claims_alone : m.claims ≡ map.insert map.empty app claim
  claims_alone = claims-meaning (o ∷ []) ∙ sym (greatest-one apps_total exact_apps claims_total (exact_claims how_cmp exact_hows) claim_said o)

  claim_at : (b : AppId) → map.get m.claims b ≡ cond (eq_by_cmp app_cmp b app) (Some claim) None
  claim_at b =
      ap (λ c. map.get c b) claims_alone ∙ map.get-insert apps_total map.empty app claim b
      ∙ ap (cond (eq_by_cmp app_cmp b app) (Some claim)) (map.get-empty app_cmp b)

  greatest_at : (b : AppId) → map.get after.claims b ≡ join_options (ord_max claim_cmp) (map.get s.claims b) (cond (eq_by_cmp app_cmp b app) (Some claim) None)
  greatest_at b =
      ap (λ c. map.get c b) (claims-join s m) ∙ get-greater apps_total exact_apps claim_cmp s.claims m.claims b
      ∙ ap (join_options (ord_max claim_cmp) (map.get s.claims b)) (claim_at b)

  none_more : (c : Option Claim) → join_options (ord_max claim_cmp) c None ≡ c
  none_more None = refl
  none_more (Some c) = refl

  -- another application's claim is unchanged
  pub other_claim : (b : AppId) → (b.0 ≡ app.0 → ⊥) → map.get after.claims b ≡ map.get s.claims b
  other_claim b ne =
      greatest_at b
      ∙ ap (λ e. join_options (ord_max claim_cmp) (map.get s.claims b) (cond e (Some claim) None)) (false_from_ne_true (eq_by_cmp app_cmp b app) (λ e. ne (ap (λ (a : AppId). a.0) (exact_apps b app ((Equal-is (app_cmp b app)).0 e)))))
      ∙ none_more (map.get s.claims b)

  later : (n : ℕ) → nat_cmp (n + 1) n ≡ Greater
  later n = sym (nat_cmp_is (n + 1) n Greater (omega arith))

  -- the new claim has the greater term
  later_is : (c : Claim) (n : ℕ) → n ≡ c.term + 1 → (rest : Ordering) → is_lt (ordering_then (nat_cmp n c.term) rest) ≡ false
  later_is c n e rest = ap (λ p. is_lt (ordering_then p rest)) (ap (λ k. nat_cmp k c.term) e ∙ later c.term)

  greater_of : (c : Option Claim) → map.get s.claims app ≡ c → join_options (ord_max claim_cmp) c (Some claim) ≡ Some claim
  greater_of None is = refl
  greater_of (Some c) is = ap (λ b. Some (cond b c claim)) (later_is c (next_term s app) (ap (λ g. option_map_or (λ (x : Claim). x.term) g 0 + 1) is) _)

  -- the application's greatest claim is the new one
  pub own_claim : map.get after.claims app ≡ Some claim
  own_claim =
      greatest_at app
      ∙ ap (λ e. join_options (ord_max claim_cmp) (map.get s.claims app) (cond e (Some claim) None)) (ap is_eq (tied_itself apps_total app))
      ∙ greater_of (map.get s.claims app) refl

-- the claim of each verdict is a claim act
pub claimed_as : (s : StateValue) (app : AppId) (verdict : Verdict) → (how : How) × (from : Option NodeId) × (claimed_by s app verdict ≡ claim_act s app how from)
claimed_as s app (Start n) = (Normal, None, refl)
claimed_as s app (Failover n) = (FailedOver, held_by s app, refl)
claimed_as s app (Halted n) = (Normal, None, refl)
claimed_as s app (Move n) = (Normal, None, refl)
claimed_as s app (Takeover n) = (TakenOver, held_by s app, refl)
claimed_as s app (Kept n) = (Normal, None, refl)
claimed_as s app Nobody = (Normal, None, refl)
