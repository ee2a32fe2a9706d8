-- Well-formed states: those that bytes of a version can spell under a configuration.
use Rattle.dac_part_bytes.specs.Table.{Table, node_count}
use Rattle.dac_origins.specs.Dots.{IsSubset}
use Rattle.dac_bytes.specs.Ranges.{IsContext}
use Rattle.dac_part_bytes.specs.KeyedForm.{ArePermitsInForm, AreStartsInForm, AreDrainsInForm}
use Rattle.dac_part_bytes.specs.ChainForm.{AreLivesInForm, AreClaimsInForm}
use Rattle.dac_meaning.specs.StateValue.{StateValue}
use Rattle.dac_bytes.specs.declared.version.Version.{Version}

-- The names, list places, numbers and counts of the state can be spelled.
pub record IsInForm (version : Version) (t : Table) (s : StateValue) : Type 0 where
  -- dots are of the configuration's nodes
  pub heard : IsContext version (node_count t) s.heard
  pub known : IsContext version (node_count t) s.known
  -- each heard dot is known
  pub within : IsSubset s.heard s.known
  -- permits and start wishes have known dots and listed nodes
  pub permits : ArePermitsInForm version t s.known s.permits
  pub starts : AreStartsInForm version t s.known s.starts
  -- lives are of the configuration's nodes
  pub lives : AreLivesInForm version (node_count t) s.lives
  -- claims are by listed nodes
  pub claims : AreClaimsInForm version t s.claims
  -- drains have known dots and are of the configuration's nodes; version one has none
  pub drains : AreDrainsInForm version t s.known s.drains
