-- The joined deltas of a piece are a part of the meaning: by induction over the operations, since the join of meanings
-- is the meaning of all.
use Rattle.std.proofs.Common.{◌≡◌, List, [], ◌∷◌, ◌++◌, inl, inr, refl, sym, ap, subst, ◌∙◌}
use Rattle.std.specs.FinMap as map
use Rattle.dac_origins.specs.declared.dot.Dot.{Dot}
use Rattle.dac_lattice.specs.Pieces.{joined}
use Rattle.dac_chains.specs.Greatest.{alone, greater}
use Rattle.dac_chains.specs.Lives.{life_cmp, life_report}
use Rattle.dac_chains.specs.Claims.{claim_cmp, claim_report}
use Rattle.dac_wishes.specs.WishesValue.{join_wishes, no_wishes}
use Rattle.dac_wishes.specs.WishMeaning.{wish_delta}
use Rattle.dac_wishes.specs.PermissionsValue.{join_permissions, no_permissions}
use Rattle.dac_wishes.specs.PermitMeaning.{permit_delta}
use Rattle.dac_wishes.specs.DrainsValue.{join_drains, no_drains}
use Rattle.dac_wishes.specs.DrainMeaning.{drain_delta}
use Rattle.dac_operations.specs.declared.act.Act.{Act}
use Rattle.dac_operations.specs.Operations.{Operation}
use Rattle.dac_operations.specs.Seen.{seen_wish, seen_permit, seen_drain, seen_life, seen_claim}
use Rattle.dac_meaning.specs.StateValue.{StateValue, bottom, join, permissions_of, wishes_of, drains_of}
use Rattle.dac_meaning.specs.laws.StateLaws.{permissions-join, wishes-join, lives-join, claims-join, drains-join}
use Rattle.dac_meaning.specs.Meaning.{IsOperationOf, AreOperationsOf, DotsDetermine, meaning_of}
use Rattle.dac_meaning.specs.laws.Joins.{join-meaning, meaning-same}
use Rattle.dac_meaning.specs.PieceParts.{as_seen, PermitsAreJoined, WishesAreJoined, DrainsAreJoined, LivesAreJoined, ClaimsAreJoined}
use Rattle.dac_meaning.proofs.Alone.{permit_delta_is_meaning, drain_delta_is_meaning, wish_delta_is_meaning, life_delta_is_meaning, claim_delta_is_meaning}
use Rattle.dac_meaning.proofs.Nothing.{nothing_means_bottom}

-- an operation at the end of a list can be moved to its front
last_is_first : (o : Operation) (os : List Operation) → AreOperationsOf (os ++ o ∷ []) (o ∷ os)
last_is_first o [] p h = h
last_is_first o (q ∷ os) p (inl is) = inr (inl is)
last_is_first o (q ∷ os) p (inr rest) = elim (last_is_first o os p rest) [
  | inl is ↦ inl is
  | inr more ↦ inr (inr more)
]

is_last : (o : Operation) (os : List Operation) → IsOperationOf o (os ++ o ∷ [])
is_last o [] = inl refl
is_last o (q ∷ os) = inr (is_last o os)

stays : (o p : Operation) (os : List Operation) → IsOperationOf p os → IsOperationOf p (os ++ o ∷ [])
stays o p [] h = elim h [ ]
stays o p (q ∷ os) (inl is) = inl is
stays o p (q ∷ os) (inr rest) = inr (stays o p os rest)

first_is_last : (o : Operation) (os : List Operation) → AreOperationsOf (o ∷ os) (os ++ o ∷ [])
first_is_last o os p (inl is) = subst (λ q. IsOperationOf q (os ++ o ∷ [])) (sym is) (is_last o os)
first_is_last o os p (inr rest) = stays o p os rest

module _ {V A : Type 0} (join_parts : V → V → V) (none : V) (delta : Dot → A → V) (part : StateValue → V) (sees : Dot → Act → A)
    (nothing : none ≡ part bottom) (joins : (x y : StateValue) → part (join x y) ≡ join_parts (part x) (part y))
    (one : (o : Operation) → delta o.dot (sees o.dot o.act) ≡ part (meaning_of (o ∷ []))) where
  are_joined : (os : List Operation) → DotsDetermine os → joined join_parts none delta (as_seen sees os) ≡ part (meaning_of os)
  are_joined [] agree = nothing ∙ ap part (sym nothing_means_bottom)
  are_joined (o ∷ os) agree =
      let before = are_joined os (λ p q i j. agree p q (inr i) (inr j)) in
      let together : join (meaning_of os) (meaning_of (o ∷ [])) ≡ meaning_of (os ++ o ∷ []) =
      join-meaning os (o ∷ []) (λ p q i j. agree p q (last_is_first o os p i) (last_is_first o os q j)) in
      (λ i. join_parts (before i) (one o i))
      ∙ sym (joins (meaning_of os) (meaning_of (o ∷ [])))
      ∙ ap part (together ∙ meaning-same (os ++ o ∷ []) (o ∷ os) (last_is_first o os) (first_is_last o os))

pub permits_are_joined : PermitsAreJoined
permits_are_joined = are_joined join_permissions no_permissions permit_delta permissions_of seen_permit refl permissions-join permit_delta_is_meaning

pub wishes_are_joined : WishesAreJoined
wishes_are_joined = are_joined join_wishes no_wishes wish_delta wishes_of seen_wish refl wishes-join wish_delta_is_meaning

pub drains_are_joined : DrainsAreJoined
drains_are_joined = are_joined join_drains no_drains drain_delta drains_of seen_drain refl drains-join drain_delta_is_meaning

pub lives_are_joined : LivesAreJoined
lives_are_joined = are_joined (greater life_cmp) map.empty (λ d a. alone (life_report d a)) (λ s. s.lives) (λ _ a. seen_life a) refl lives-join life_delta_is_meaning

pub claims_are_joined : ClaimsAreJoined
claims_are_joined = are_joined (greater claim_cmp) map.empty (λ d a. alone (claim_report d a)) (λ s. s.claims) (λ _ a. seen_claim a) refl claims-join claim_delta_is_meaning
