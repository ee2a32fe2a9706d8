-- The delta of one operation, part by part: it is the meaning of the operation alone.
use Rattle.std.specs.Prelude.{◌≡◌, [], ◌∷◌}
use Rattle.std.specs.FinSet as set
use Rattle.dac_chains.specs.Greatest.{alone}
use Rattle.dac_chains.specs.Lives.{life_report}
use Rattle.dac_chains.specs.Claims.{claim_report}
use Rattle.dac_wishes.specs.WishMeaning.{wish_delta}
use Rattle.dac_wishes.specs.PermitMeaning.{permit_delta}
use Rattle.dac_wishes.specs.DrainMeaning.{drain_delta}
use Rattle.dac_operations.specs.Operations.{Operation}
use Rattle.dac_operations.specs.Seen.{seen_wish, seen_permit, seen_drain, seen_life, seen_claim}
use Rattle.dac_meaning.specs.StateValue.{permissions_of, wishes_of, drains_of}
use Rattle.dac_meaning.specs.Meaning.{meaning_of}

-- only the operation's dot is heard
abbrev pub OneIsHeard : Type 0
OneIsHeard = (o : Operation) → set.insert set.empty o.dot ≡ (meaning_of (o ∷ [])).heard

abbrev pub PermitDeltaIsMeaning : Type 0
PermitDeltaIsMeaning =
    (o : Operation) → permit_delta o.dot (seen_permit o.dot o.act) ≡ permissions_of (meaning_of (o ∷ []))

abbrev pub WishDeltaIsMeaning : Type 0
WishDeltaIsMeaning = (o : Operation) → wish_delta o.dot (seen_wish o.dot o.act) ≡ wishes_of (meaning_of (o ∷ []))

abbrev pub DrainDeltaIsMeaning : Type 0
DrainDeltaIsMeaning = (o : Operation) → drain_delta o.dot (seen_drain o.dot o.act) ≡ drains_of (meaning_of (o ∷ []))

abbrev pub LifeDeltaIsMeaning : Type 0
LifeDeltaIsMeaning = (o : Operation) → alone (life_report o.dot (seen_life o.act)) ≡ (meaning_of (o ∷ [])).lives

abbrev pub ClaimDeltaIsMeaning : Type 0
ClaimDeltaIsMeaning = (o : Operation) → alone (claim_report o.dot (seen_claim o.act)) ≡ (meaning_of (o ∷ [])).claims
