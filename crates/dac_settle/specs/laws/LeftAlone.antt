-- The conditions under which an application has no candidate, in terms without loads, so that claims of other
-- applications don't change them.
use Rattle.std.proofs.Common.{◌≡◌, ◌⊎◌, Option, Some, None, refl, sym, ap, subst, ◌∙◌, inl, inr}
use Rattle.dac_settle.specs.laws.Common.{false≢true, NodeId, AppId, Origin, Lives, IsLive, StateValue, Table, Verdict, Failover, Halted, Move, Takeover, Kept, Nobody, IsEligible, is_eligible, IsEarlier, IsStartedAt, IsAllowedAt, HeldBy, holder_of, IsVerdict, verdict_of, candidate_of, verdict_in_words, MayRunAlike, alike_back}
use Rattle.std.specs.Prelude.{is_some}
use Rattle.std.specs.FinSet as set
use Rattle.std.specs.FinMap as map
use Rattle.dac_wishes.specs.PermissionsValue.{Permits}
use Rattle.dac_wishes.specs.DrainsValue.{Drains}
use Rattle.dac_wishes.specs.Writes.{Writes}
use Rattle.dac_placement.specs.declared.verdicts.Verdict.TheVariants.{Start}
use Rattle.dac_placement.specs.Placement.{EachEligible, IsUp, is_started_at, is_allowed_at, key_of}
use Rattle.dac_placement.specs.laws.Tests.{eligible_is, started_is, allowed_is}
use Rattle.dac_settle.specs.Placed.{IsFit}

-- at this incarnation the application is started and permitted, and no eligible node is of an earlier group
abbrev pub IsWellAt : Table → StateValue → AppId → Origin → Type 0
IsWellAt t s app o = IsStartedAt s (key_of app o) × IsAllowedAt t s (key_of app o) × EachEligible t s app (λ m. ¬ IsEarlier t app m o.node)

-- the incarnation is live, and the application was stopped there, or meets the conditions above
abbrev pub IsLeftAt : Table → StateValue → AppId → Origin → Type 0
IsLeftAt t s app o = IsUp s o × ((¬ IsStartedAt s (key_of app o)) ⊎ IsWellAt t s app o)

-- no node can run the application, or its holder is left alone with it
abbrev pub IsLeft : Table → StateValue → AppId → Type 0
IsLeft t s app = EachEligible t s app (λ _. ⊥) ⊎ HeldBy s app (IsLeftAt t s app)

some_none : {X : Type 0} {v : X} {Y : Type 0} → ◌≡◌ {A = Option X} (Some v) None → Y
some_none e = absurd (false≢true (sym (ap is_some e)))

module _ (t : Table) (s : StateValue) (app : AppId) where
  -- ---- an application without a candidate is left alone

  left_by : (v : Verdict) → IsVerdict t s app v → candidate_of v ≡ None → IsLeft t s app
  left_by (Start n) is e = some_none e
  left_by (Failover n) is e = some_none e
  left_by (Halted n) is e = inr (is.0, is.1, (is.2.1, inl is.2.2))
  left_by (Move n) is e = some_none e
  left_by (Takeover n) is e = some_none e
  left_by (Kept n) is e = inr (is.0.0, is.0.1, (is.0.2.1, inr (is.0.2.2, is.0.2.3, subst (λ k. EachEligible t s app (λ m. ¬ IsEarlier t app m k)) (sym is.0.2.0) is.1)))
  left_by Nobody is e = inl is.0

  pub left_if : candidate_of (verdict_of t s app) ≡ None → IsLeft t s app
  left_if e = left_by (verdict_of t s app) (verdict_in_words t s app) e

  -- ---- an application left alone has no candidate

  none_by : (v : Verdict) → IsVerdict t s app v → EachEligible t s app (λ _. ⊥) → candidate_of v ≡ None
  none_by (Start n) is none = absurd (none n is.1.node is.1.eligible)
  none_by (Failover n) is none = absurd (none n is.1.node is.1.eligible)
  none_by (Halted n) is none = refl
  none_by (Move n) is none = absurd (none n is.1.node is.1.eligible)
  none_by (Takeover n) is none = absurd (none n is.2.node is.2.eligible)
  none_by (Kept n) is none = refl
  none_by Nobody is none = refl

  one : {a b : Origin} → ◌≡◌ {A = Option Origin} (Some a) (Some b) → a ≡ b
  one e = cc

  held_by : (v : Verdict) → IsVerdict t s app v → HeldBy s app (IsLeftAt t s app) → candidate_of v ≡ None
  held_by (Start n) is held = some_none (sym held.1 ∙ is.0)
  held_by (Failover n) is held = absurd (is.0.2 (subst (IsUp s) (one (sym held.1 ∙ is.0.1)) held.2.0))
  held_by (Halted n) is held = refl
  held_by (Move n) is held =
      let same : held.0 ≡ is.0.0 = one (sym held.1 ∙ is.0.1) in
      elim held.2.1 [
        | inl stopped ↦ absurd (stopped (subst (λ (o : Origin). IsStartedAt s (key_of app o)) (sym same) is.0.2.1))
        | inr well ↦ absurd (is.0.2.2 (subst (λ (o : Origin). IsAllowedAt t s (key_of app o)) same well.1))
      ]
  held_by (Takeover n) is held =
      let same : held.0 ≡ is.1.0 = one (sym held.1 ∙ is.1.1) in
      elim held.2.1 [
        | inl stopped ↦ absurd (stopped (subst (λ (o : Origin). IsStartedAt s (key_of app o)) (sym same) is.1.2.2))
        | inr well ↦ absurd (well.2 n is.2.node is.2.eligible (subst (IsEarlier t app n) (sym (ap (λ (o : Origin). o.node) same ∙ is.1.2.0)) is.3))
      ]
  held_by (Kept n) is held = refl
  held_by Nobody is held = refl

  pub if_left : IsLeft t s app → candidate_of (verdict_of t s app) ≡ None
  if_left left = elim left [
    | inl none ↦ none_by (verdict_of t s app) (verdict_in_words t s app) none
    | inr held ↦ held_by (verdict_of t s app) (verdict_in_words t s app) held
  ]

-- ---- states that differ only in claims

-- a state with these parts, and without claims
abbrev places : Lives → Permits → Writes → Drains → StateValue
places lives permits starts drains = record { heard = set.empty; known = set.empty; permits = permits; starts = starts; lives = lives; claims = map.empty; drains = drains }

module _ (t : Table) (s u : StateValue) (a : MayRunAlike s u) (app : AppId) where
  eligible_alike : (n : NodeId) → is_eligible t s app n ≡ is_eligible t u app n
  eligible_alike n = λ i. is_eligible t (places (a.lives i) (a.permits i) (a.starts i) (a.drains i)) app n

  pub to_eligible : (n : NodeId) → IsEligible t s app n → IsEligible t u app n
  to_eligible n may = (eligible_is t u app n).0 (sym (eligible_alike n) ∙ (eligible_is t s app n).1 may)

  pub to_started : (o : Origin) → IsStartedAt s (key_of app o) → IsStartedAt u (key_of app o)
  to_started o is =
      let alike : is_started_at s (key_of app o) ≡ is_started_at u (key_of app o) = λ i. is_started_at (places (a.lives i) (a.permits i) (a.starts i) (a.drains i)) (key_of app o) in
      (started_is t u app o.node o.inc).0 (sym alike ∙ (started_is t s app o.node o.inc).1 is)

  to_permitted : (o : Origin) → IsAllowedAt t s (key_of app o) → IsAllowedAt t u (key_of app o)
  to_permitted o is =
      let alike : is_allowed_at t s (key_of app o) ≡ is_allowed_at t u (key_of app o) = λ i. is_allowed_at t (places (a.lives i) (a.permits i) (a.starts i) (a.drains i)) (key_of app o) in
      (allowed_is t u app o.node o.inc).0 (sym alike ∙ (allowed_is t s app o.node o.inc).1 is)

  to_up : (o : Origin) → IsUp s o → IsUp u o
  to_up o up = subst (λ (l : Lives). IsLive l o.node o.inc) a.lives up

-- a property of all eligible nodes of one state holds of those of the other
pub each_alike : (t : Table) (s u : StateValue) → MayRunAlike s u → (app : AppId) (P : NodeId → Type 0) → EachEligible t s app P → EachEligible t u app P
each_alike t s u a app P all = λ m lt may. all m lt (to_eligible t u s (alike_back s u a) app m may)

-- the nodes that can run an application are the same
pub fit_alike : (t : Table) (s u : StateValue) → MayRunAlike s u → (app : AppId) (o : Origin) → IsFit t s app o → IsFit t u app o
fit_alike t s u a app o fit = record {
  eligible = to_eligible t s u a app o.node fit.eligible;
  earliest = each_alike t s u a app (λ m. ¬ IsEarlier t app m o.node) fit.earliest;
  live = to_up t s u a app o fit.live;
}

left_at_alike : (t : Table) (s u : StateValue) → MayRunAlike s u → (app : AppId) (o : Origin) → IsLeftAt t s app o → IsLeftAt t u app o
left_at_alike t s u a app o left = (
  to_up t s u a app o left.0,
  elim left.1 [
    | inl stopped ↦ inl (λ started. stopped (to_started t u s (alike_back s u a) app o started))
    | inr well ↦ inr (to_started t s u a app o well.0, to_permitted t s u a app o well.1, each_alike t s u a app (λ m. ¬ IsEarlier t app m o.node) well.2)
  ],
)

-- an application left alone in one state is left alone in the other, if the holder is the same
pub left_alike : (t : Table) (s u : StateValue) → MayRunAlike s u → (app : AppId) → holder_of s app ≡ holder_of u app → IsLeft t s app → IsLeft t u app
left_alike t s u a app same left = elim left [
  | inl none ↦ inl (each_alike t s u a app (λ _. ⊥) none)
  | inr held ↦ inr (held.0, sym same ∙ held.1, left_at_alike t s u a app held.0 held.2)
]
