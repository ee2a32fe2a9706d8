-- Reading a state of a version from left to right, up to the first fault.
use Rattle.std.specs.Prelude.{ℕ, ◌==◌, List, length, Result, Ok, if◌then◌else◌}
use Rattle.std.specs.FinSet as set
use Rattle.dac_origins.specs.Dots.{Dots}
use Rattle.dac_chains.specs.Lives.{Lives}
use Rattle.dac_chains.specs.Claims.{Claims}
use Rattle.dac_wishes.specs.Writes.{Writes}
use Rattle.dac_wishes.specs.PermissionsValue.{Permits}
use Rattle.dac_wishes.specs.DrainsValue.{Drains}
use Rattle.dac_part_bytes.specs.Table.{Table, node_count}
use Rattle.dac_bytes.specs.declared.fault.ReadFault.{ReadFault}
use Rattle.dac_bytes.specs.declared.fault.ReadFaultKind.TheVariants.{NotKnown, Trailing}
use Rattle.dac_bytes.specs.Reading.{Rest, Field, whole, fault, ◌>>=◌, context_at}
use Rattle.dac_part_bytes.specs.Reading.{all_permits_at, all_starts_at, all_lives_at, all_claims_at, all_drains_at}
use Rattle.dac_meaning.specs.StateValue.{StateValue}
use Rattle.dac_bytes.specs.declared.version.Version.{Version}

-- the dots heard, and the dots known, which must include them
unfoldable pub dots_at : Version → ℕ → Rest → Field (Dots × Dots)
dots_at version nodes r = do
  heard ← context_at version nodes r
  known ← context_at version nodes heard.1
  if set.is_subset heard.0 known.0 then Ok ((heard.0, known.0), known.1) else fault NotKnown known.1

-- the permits and start wishes, whose dots must be known
unfoldable pub standing_at : Version → Table → Dots → Rest → Field (Permits × Writes)
standing_at version t known r = do
  permits ← all_permits_at version t known r
  starts ← all_starts_at version t known permits.1
  Ok ((permits.0, starts.0), starts.1)

-- the lives, and the claims
unfoldable pub chains_at : Version → Table → Rest → Field (Lives × Claims)
chains_at version t r = do
  lives ← all_lives_at version (node_count t) r
  claims ← all_claims_at version t lives.1
  Ok ((lives.0, claims.0), claims.1)

-- the lives, the claims, and the drains, whose dots must be known
unfoldable pub chains_and_drains_at : Version → Table → Dots → Rest → Field ((Lives × Claims) × Drains)
chains_and_drains_at version t known r = do
  chains ← chains_at version t r
  drains ← all_drains_at version t known chains.1
  Ok ((chains.0, drains.0), drains.1)

-- permits and start wishes, lives and claims, and drains, in the order of the bytes
abbrev pub Pieces : Type 0
Pieces = (Permits × Writes) × ((Lives × Claims) × Drains)

-- the pieces of a state with these known dots
unfoldable pub pieces_at : Version → Table → Dots → Rest → Field Pieces
pieces_at version t known r = do
  standing ← standing_at version t known r
  others ← chains_and_drains_at version t known standing.1
  Ok ((standing.0, others.0), others.1)

-- the state with these dots heard, dots known and pieces
abbrev pub state_from : Dots × Dots → Pieces → StateValue
state_from dots p = record {
  heard = dots.0;
  known = dots.1;
  permits = p.0.0;
  starts = p.0.1;
  lives = p.1.0.0;
  claims = p.1.0.1;
  drains = p.1.1;
}

-- the parts of a state, in sequence
unfoldable pub parts_at : Version → Table → Rest → Field StateValue
parts_at version t r = do
  dots ← dots_at version (node_count t) r
  pieces ← pieces_at version t dots.0.1 dots.1
  Ok (state_from dots.0 pieces.0, pieces.1)

-- a state without further bytes
unfoldable pub state_at : Version → Table → List ℕ → Result StateValue ReadFault
state_at version t bytes = do
  s ← parts_at version t (whole bytes)
  if length s.1.bytes == 0 then Ok s.0 else fault Trailing s.1
