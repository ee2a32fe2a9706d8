use Rattle.std.specs.Prelude.{Option}
use Rattle.std.proofs.Common.{arith}
use Rattle.dac_part_bytes.proofs.Common.{NodeId, exact_gives, found_call, again_call}
use Rattle.dac_chains.specs.declared.claims.How.{How}
use Rattle.dac_part_bytes.specs.ChainForm.{IsConsistentOrigin}
use Rattle.dac_part_bytes.specs.Reading.{manner_at}
use Rattle.dac_part_bytes.specs.Spelling.{manner_bytes}
use Rattle.dac_part_bytes.proofs.ChainClaims.{manner_takes, manner_again}
use Rattle.dac_part_bytes.proofs.reading_fields.read_manner.Goals as goal

pub returns-clause-found : goal.returns-clause-found
returns-clause-found c =
    found_call (λ x. x) (manner_at c.args.nodes) (λ (m : How × Option NodeId). manner_bytes m.0 m.1) (λ m. IsConsistentOrigin c.args.nodes m.0 m.1) (manner_takes c.args.nodes) c.args.reader c.read_how_and_from.result
    (exact_gives c.read_how_and_from.result (manner_at c.args.nodes c.args.reader) c.read_how_and_from.ensures.exact c.read_how_and_from.ensures.real)

pub returns-clause-again : goal.returns-clause-again
returns-clause-again c =
    again_call (λ x. x) (manner_at c.args.nodes) (λ (m : How × Option NodeId). manner_bytes m.0 m.1) (λ m. IsConsistentOrigin c.args.nodes m.0 m.1) (manner_again c.args.nodes (omega (arith, c.ranges.nodes.fits))) c.args.reader c.read_how_and_from.result
    (exact_gives c.read_how_and_from.result (manner_at c.args.nodes c.args.reader) c.read_how_and_from.ensures.exact c.read_how_and_from.ensures.real)
