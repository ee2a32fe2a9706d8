-- The pieces of a state: their bytes, and when they are well-formed.
use Rattle.std.specs.Prelude.{ℕ, List, ◌++◌}
use Rattle.dac_origins.specs.Dots.{Dots, IsSubset}
use Rattle.dac_chains.specs.Lives.{Lives}
use Rattle.dac_chains.specs.Claims.{Claims}
use Rattle.dac_wishes.specs.Writes.{Writes}
use Rattle.dac_wishes.specs.PermissionsValue.{Permits}
use Rattle.dac_wishes.specs.DrainsValue.{Drains}
use Rattle.dac_part_bytes.specs.Table.{Table, node_count}
use Rattle.dac_bytes.specs.Ranges.{IsContext}
use Rattle.dac_bytes.specs.Spelling.{context_bytes}
use Rattle.dac_part_bytes.specs.Spelling.{permits_bytes, starts_bytes, lives_bytes, claims_bytes, drains_bytes}
use Rattle.dac_part_bytes.specs.KeyedForm.{ArePermitsInForm, AreStartsInForm, AreDrainsInForm}
use Rattle.dac_part_bytes.specs.ChainForm.{AreLivesInForm, AreClaimsInForm}
use Rattle.dac_state.specs.StateReading.{Pieces}
use Rattle.dac_bytes.specs.declared.version.Version.{Version}

-- the dots heard and the dots known
abbrev pub dots_bytes : Version → Dots × Dots → List ℕ
dots_bytes version dots = context_bytes version dots.0 ++ context_bytes version dots.1

abbrev pub AreDots : Version → ℕ → Dots × Dots → Type 0
AreDots version nodes dots = (IsContext version nodes dots.0 × IsContext version nodes dots.1) × IsSubset dots.0 dots.1

abbrev pub standing_bytes : Version → Permits × Writes → List ℕ
standing_bytes version s = permits_bytes version s.0 ++ starts_bytes version s.1

abbrev pub AreStanding : Version → Table → Dots → Permits × Writes → Type 0
AreStanding version t known s = ArePermitsInForm version t known s.0 × AreStartsInForm version t known s.1

abbrev pub chains_bytes : Version → Lives × Claims → List ℕ
chains_bytes version c = lives_bytes version c.0 ++ claims_bytes version c.1

abbrev pub AreChains : Version → Table → Lives × Claims → Type 0
AreChains version t c = AreLivesInForm version (node_count t) c.0 × AreClaimsInForm version t c.1

abbrev pub chains_and_drains_bytes : Version → (Lives × Claims) × Drains → List ℕ
chains_and_drains_bytes version c = chains_bytes version c.0 ++ drains_bytes version c.1

abbrev pub AreChainsAndDrains : Version → Table → Dots → (Lives × Claims) × Drains → Type 0
AreChainsAndDrains version t known c = AreChains version t c.0 × AreDrainsInForm version t known c.1

abbrev pub pieces_bytes : Version → Pieces → List ℕ
pieces_bytes version p = standing_bytes version p.0 ++ chains_and_drains_bytes version p.1

abbrev pub ArePieces : Version → Table → Dots → Pieces → Type 0
ArePieces version t known p = AreStanding version t known p.0 × AreChainsAndDrains version t known p.1
