-- The codecs of lives and claims: a part that is read is well-formed, with these bytes as its spelling, and each
-- well-formed one is read from its spelling.
use Rattle.std.specs.Prelude.{ℕ, ◌<◌, ◌≤◌, ◌^◌, length}
use Rattle.dac_part_bytes.proofs.Common.{AllByRecursion, w8, nodes_total, apps_total, exact_nodes, exact_apps, Table, node_count, app_count, u8_bytes, u16_bytes, number_at, TakesAs, Again, TakesAs-more, life_at, all_lives_at, claim_at, all_claims_at, life_bytes, lives_bytes, claim_bytes, claims_bytes, Version}
use Rattle.std.specs.Int.{w16}
use Rattle.std.specs.FinMap as map
use Rattle.dac_chains.specs.Lives.{Lives}
use Rattle.dac_chains.specs.Claims.{Claims}
use Rattle.dac_bytes.specs.laws.Fields.{u8_takes, u8_again, u16_takes, u16_again}
use Rattle.dac_part_bytes.proofs.ChainClaims.{claim_takes, claim_again}
use Rattle.dac_part_bytes.proofs.ChainEntries.{map_takes, map_again}
use Rattle.dac_part_bytes.specs.ChainForm.{IsLifeInForm, AreLivesInForm, IsClaimInForm, AreClaimsInForm}
use Rattle.dac_part_bytes.proofs.ChainLives.{life_takes, life_again}
use Rattle.dac_part_bytes.specs.Reading.{lives_in_order_at, claims_in_order_at}

-- Lives that are read are well-formed, with these bytes as their spelling.
pub lives_takes : (version : Version) (nodes : ℕ) → TakesAs (all_lives_at version nodes) (lives_bytes version) (AreLivesInForm version nodes)
unfolding all_lives_at lives_in_order_at lives_bytes
lives_takes version nodes =
    TakesAs-more (all_lives_at version nodes) (lives_bytes version) (λ lives. (length (map.entries lives) < 2 ^ 8) × AllByRecursion (IsLifeInForm version nodes) (map.entries lives)) (AreLivesInForm version nodes)
    (map_takes nodes_total exact_nodes (IsLifeInForm version nodes) (life_at version nodes) (number_at w8) u8_bytes (life_bytes version) (λ n. n < 2 ^ 8) u8_takes (life_takes version nodes)) (λ lives is. record { each = is.1; count = is.0 })

-- Well-formed lives are read from their spelling, at any offset.
pub lives_again : (version : Version) (nodes : ℕ) → nodes ≤ 2 ^ 8 → (lives : Lives) → AreLivesInForm version nodes lives → Again (all_lives_at version nodes) (lives_bytes version lives) lives
unfolding all_lives_at lives_in_order_at lives_bytes
lives_again version nodes fit lives is =
    map_again nodes_total exact_nodes (IsLifeInForm version nodes) (life_at version nodes) (number_at w8) u8_bytes (life_bytes version) (λ n. n < 2 ^ 8) lives
    (u8_again (length (map.entries lives)) is.count) (λ before. life_again version nodes before fit) is.each

-- Claims that are read are well-formed, with these bytes as their spelling.
pub claims_takes : (version : Version) (t : Table) → TakesAs (all_claims_at version t) (claims_bytes version) (AreClaimsInForm version t)
unfolding all_claims_at claims_in_order_at claims_bytes
claims_takes version t =
    TakesAs-more (all_claims_at version t) (claims_bytes version) (λ claims. (length (map.entries claims) < 2 ^ 16) × AllByRecursion (IsClaimInForm version t) (map.entries claims)) (AreClaimsInForm version t)
    (map_takes apps_total exact_apps (IsClaimInForm version t) (claim_at version t) (number_at w16) u16_bytes (claim_bytes version) (λ n. n < 2 ^ 16) u16_takes (claim_takes version t)) (λ claims is. record { each = is.1; count = is.0 })

-- Well-formed claims are read from their spelling, at any offset.
pub claims_again : (version : Version) (t : Table) → node_count t < 2 ^ 8 → app_count t ≤ 2 ^ 16 → (claims : Claims) → AreClaimsInForm version t claims → Again (all_claims_at version t) (claims_bytes version claims) claims
unfolding all_claims_at claims_in_order_at claims_bytes
claims_again version t nodes_fit apps_fit claims is =
    map_again apps_total exact_apps (IsClaimInForm version t) (claim_at version t) (number_at w16) u16_bytes (claim_bytes version) (λ n. n < 2 ^ 16) claims
    (u16_again (length (map.entries claims)) is.count) (claim_again version t nodes_fit apps_fit) is.each
