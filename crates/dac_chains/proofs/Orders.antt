-- The derived orders of lives and claims are the intended ones.
use Rattle.std.proofs.Common.{◌≡◌, refl}
use Rattle.std.specs.Ordering.{nat_cmp, ordering_then}
use Rattle.std.specs.Option.{option_cmp}
use Rattle.dac_base.specs.Ids.{node_cmp}
use Rattle.dac_lattice.specs.Dots.{origin_cmp}
use Rattle.dac_lattice.specs.contracts.flags.FlagOrd.TheImpl.{cmp-value as flags}
use Rattle.dac_lattice.specs.laws.Flags.{same_flag_cmp}
use Rattle.dac_chains.specs.contracts.lives.LifeOrd.TheImpl.{cmp-value as lives}
use Rattle.dac_chains.specs.contracts.claims.ClaimOrd.TheImpl.{cmp-value as claims}
use Rattle.dac_chains.specs.Lives.{life_cmp}
use Rattle.dac_chains.specs.Claims.{claim_cmp}
use Rattle.dac_chains.specs.laws.Hows.{same_hows}

pub order_of_lives : lives.it ≡ life_cmp
order_of_lives = λ i a b. ordering_then (nat_cmp a.inc b.inc) (same_flag_cmp flags.it refl refl refl refl a.flag b.flag i)

pub order_of_claims : claims.it ≡ claim_cmp
order_of_claims = λ i a b. ordering_then (nat_cmp a.term b.term) (ordering_then (origin_cmp a.origin b.origin) (ordering_then (same_hows a.how b.how i) (option_cmp node_cmp a.from b.from)))
