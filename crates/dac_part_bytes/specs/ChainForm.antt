-- Well-formed lives and claims, which are those that can be read. Lives depend on the number of nodes, and claims on a
-- configuration.
use Rattle.std.specs.Prelude.{◌≡◌, ℕ, ◌<◌, ◌≤◌, ◌^◌, true, length, Option, None, Some}
use Rattle.std.specs.List.{AllByRecursion}
use Rattle.std.specs.FinMap as map
use Rattle.dac_base.specs.declared.NodeId.{NodeId}
use Rattle.dac_base.specs.declared.AppId.{AppId}
use Rattle.dac_base.specs.declared.limits.TheConstants.{MAX_COUNTER}
use Rattle.dac_chains.specs.declared.lives.Life.{Life}
use Rattle.dac_chains.specs.declared.claims.Claim.{Claim}
use Rattle.dac_chains.specs.declared.claims.How.{How}
use Rattle.dac_chains.specs.declared.claims.How.TheVariants.{Normal, Failover, Takeover}
use Rattle.dac_chains.specs.Lives.{Lives}
use Rattle.dac_chains.specs.Claims.{Claims}
use Rattle.dac_config.specs.Table.{Table, node_count, app_count}
use Rattle.dac_bytes.specs.Ranges.{IsIncarnation, IsOrigin}
use Rattle.dac_part_bytes.specs.Reading.{is_listed}
use Rattle.dac_bytes.specs.declared.version.Version.{Version}

-- ---- lives

-- the life of a node is well-formed
pub record IsLifeInForm (version : Version) (nodes : ℕ) (e : NodeId × Life) : Type 0 where
  pub node : e.0.0 < nodes
  pub inc : IsIncarnation version e.1.inc

-- the lives of some nodes are well-formed
pub record AreLivesInForm (version : Version) (nodes : ℕ) (lives : Lives) : Type 0 where
  pub each : AllByRecursion (IsLifeInForm version nodes) (map.entries lives)
  pub count : length (map.entries lives) < 2 ^ 8

-- ---- claims

-- A manner is consistent: `Normal` has no previous node, and the others have an existing one.
abbrev pub IsConsistentOrigin : ℕ → How → Option NodeId → Type 0
IsConsistentOrigin nodes Normal from = from ≡ None
IsConsistentOrigin nodes Failover from = (node : NodeId) × (from ≡ Some node) × (node.0 < nodes)
IsConsistentOrigin nodes Takeover from = (node : NodeId) × (from ≡ Some node) × (node.0 < nodes)

-- the claim of an application is well-formed
pub record IsClaimInForm (version : Version) (t : Table) (e : AppId × Claim) : Type 0 where
  pub app : e.0.0 < app_count t
  -- its term can be issued
  pub first : 1 ≤ e.1.term
  pub last : e.1.term ≤ MAX_COUNTER
  -- the claiming incarnation is of an existing node
  pub origin : IsOrigin version (node_count t) e.1.origin
  -- that node is in the application's list
  pub listed : is_listed t e.0 e.1.origin.node ≡ true
  -- its manner is consistent
  pub from : IsConsistentOrigin (node_count t) e.1.how e.1.from

-- the claims of some applications are well-formed
pub record AreClaimsInForm (version : Version) (t : Table) (claims : Claims) : Type 0 where
  pub each : AllByRecursion (IsClaimInForm version t) (map.entries claims)
  pub count : length (map.entries claims) < 2 ^ 16
