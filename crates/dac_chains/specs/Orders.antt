-- The orders of claims and of lives, spelled out.
use Rattle.std.specs.Prelude.{◌≡◌, ◌⊎◌, ◌↔◌, ◌<◌, ⊤, Option, None, Some}
use Rattle.std.specs.declared.cmp.Ordering.TheVariants.{Less}
use Rattle.dac_base.specs.declared.NodeId.{NodeId}
use Rattle.dac_lattice.specs.declared.flags.Flag.TheVariants.{Up, Down}
use Rattle.dac_chains.specs.declared.claims.How.{How}
use Rattle.dac_chains.specs.declared.claims.How.TheVariants.{Normal, Failover, Takeover}
use Rattle.dac_chains.specs.declared.claims.Claim.{Claim}
use Rattle.dac_chains.specs.declared.lives.Life.{Life}
use Rattle.dac_chains.specs.Claims.{claim_cmp}
use Rattle.dac_chains.specs.Lives.{life_cmp}

-- a normal claim is below a failover, and both are below a takeover
abbrev pub IsHowAbove : How → How → Type 0
IsHowAbove Failover Normal = ⊤
IsHowAbove Takeover Normal = ⊤
IsHowAbove Takeover Failover = ⊤
IsHowAbove _ _ = ⊥

-- none is below any node, and nodes are ordered by number
abbrev pub IsFromAbove : Option NodeId → Option NodeId → Type 0
IsFromAbove None from = ⊥
IsFromAbove (Some m) None = ⊤
IsFromAbove (Some m) (Some n) = n.0 < m.0

-- Claim a is above b: it has the later term; or at one term the claimer's node has the greater number; or at one node
-- its incarnation is the later; or at one incarnation its way is above; or at one way its previous node is above.
abbrev pub IsAbove : Claim → Claim → Type 0
IsAbove a b = (b.term < a.term) ⊎ ((b.term ≡ a.term)
    × ((b.origin.node.0 < a.origin.node.0) ⊎ ((b.origin.node.0 ≡ a.origin.node.0)
    × ((b.origin.inc < a.origin.inc) ⊎ ((b.origin.inc ≡ a.origin.inc)
    × (IsHowAbove a.how b.how ⊎ ((b.how ≡ a.how) × IsFromAbove a.from b.from)))))))

-- `claim_cmp` is this order
abbrev pub ClaimsInWords : Type 0
ClaimsInWords = (a b : Claim) → (claim_cmp b a ≡ Less) ↔ IsAbove a b

-- Life a is above b: it is of the later incarnation, or of the same one, and is down in a and up in b.
abbrev pub IsLifeAbove : Life → Life → Type 0
IsLifeAbove a b = (b.inc < a.inc) ⊎ ((b.inc ≡ a.inc) × ((a.flag ≡ Down) × (b.flag ≡ Up)))

-- `life_cmp` is this order
abbrev pub LivesInWords : Type 0
LivesInWords = (a b : Life) → (life_cmp b a ≡ Less) ↔ IsLifeAbove a b
