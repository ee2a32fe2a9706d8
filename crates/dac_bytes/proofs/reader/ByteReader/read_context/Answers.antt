use Rattle.std.proofs.Common.{arith}
use Rattle.dac_bytes.specs.laws.Calls.{found_call, again_call}
use Rattle.dac_bytes.specs.laws.ContextLaws.{context_takes, context_again}
use Rattle.dac_bytes.specs.Ranges.{IsContext}
use Rattle.dac_bytes.specs.Reading.{context_at}
use Rattle.dac_bytes.specs.Spelling.{context_bytes}
use Rattle.dac_bytes.proofs.reader.ByteReader.read_context.Goals as goal

pub returns-clause-found : goal.returns-clause-found
returns-clause-found c = found_call (λ x. x) (context_at c.args.version c.args.nodes) (context_bytes c.args.version) (IsContext c.args.version c.args.nodes) (context_takes c.args.version c.args.nodes) c.args.self c.read_set.result c.read_set.ensures

pub returns-clause-again : goal.returns-clause-again
returns-clause-again c =
    again_call (λ x. x) (context_at c.args.version c.args.nodes) (context_bytes c.args.version) (IsContext c.args.version c.args.nodes) (context_again c.args.version c.args.nodes (omega (arith, c.ranges.nodes.fits))) c.args.self c.read_set.result c.read_set.ensures
