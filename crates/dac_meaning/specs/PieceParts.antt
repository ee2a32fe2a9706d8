-- The parts of a meaning are the joined deltas of its pieces. Therefore a piece's own definition of the meaning of
-- operations agrees with the meaning's part.
use Rattle.std.specs.Prelude.{◌≡◌, List, map as list_map}
use Rattle.std.specs.FinMap as map
use Rattle.dac_origins.specs.declared.dot.Dot.{Dot}
use Rattle.dac_lattice.specs.Pieces.{joined}
use Rattle.dac_chains.specs.Greatest.{alone, greater}
use Rattle.dac_chains.specs.Lives.{life_cmp, life_report}
use Rattle.dac_chains.specs.Claims.{claim_cmp, claim_report}
use Rattle.dac_wishes.specs.WishesValue.{join_wishes, no_wishes}
use Rattle.dac_wishes.specs.WishMeaning.{wish_delta}
use Rattle.dac_wishes.specs.PermissionsValue.{join_permissions, no_permissions}
use Rattle.dac_wishes.specs.PermitMeaning.{permit_delta}
use Rattle.dac_wishes.specs.DrainsValue.{join_drains, no_drains}
use Rattle.dac_wishes.specs.DrainMeaning.{drain_delta}
use Rattle.dac_operations.specs.declared.act.Act.{Act}
use Rattle.dac_operations.specs.Operations.{Operation}
use Rattle.dac_operations.specs.Seen.{seen_wish, seen_permit, seen_drain, seen_life, seen_claim}
use Rattle.dac_meaning.specs.StateValue.{permissions_of, wishes_of, drains_of}
use Rattle.dac_meaning.specs.Meaning.{DotsDetermine, meaning_of}

-- the operations, with the part of each act that a piece depends on
abbrev pub as_seen : {A : Type 0} → (Dot → Act → A) → List Operation → List (Dot × A)
as_seen sees os = list_map (λ (o : Operation). (o.dot, sees o.dot o.act)) os

abbrev pub PermitsAreJoined : Type 0
PermitsAreJoined = (os : List Operation) → DotsDetermine os
    → joined join_permissions no_permissions permit_delta (as_seen seen_permit os) ≡ permissions_of (meaning_of os)

abbrev pub WishesAreJoined : Type 0
WishesAreJoined = (os : List Operation) → DotsDetermine os
    → joined join_wishes no_wishes wish_delta (as_seen seen_wish os) ≡ wishes_of (meaning_of os)

abbrev pub DrainsAreJoined : Type 0
DrainsAreJoined = (os : List Operation) → DotsDetermine os
    → joined join_drains no_drains drain_delta (as_seen seen_drain os) ≡ drains_of (meaning_of os)

abbrev pub LivesAreJoined : Type 0
LivesAreJoined = (os : List Operation) → DotsDetermine os
    → joined (greater life_cmp) map.empty (λ d a. alone (life_report d a)) (as_seen (λ _ a. seen_life a) os)
    ≡ (meaning_of os).lives

abbrev pub ClaimsAreJoined : Type 0
ClaimsAreJoined = (os : List Operation) → DotsDetermine os
    → joined (greater claim_cmp) map.empty (λ d a. alone (claim_report d a)) (as_seen (λ _ a. seen_claim a) os)
    ≡ (meaning_of os).claims
