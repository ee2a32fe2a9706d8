use Rattle.std.proofs.Common.{arith}
use Rattle.dac_part_bytes.proofs.Common.{node_count, found_call, again_call, all_lives_at, lives_bytes}
use Rattle.dac_part_bytes.specs.ChainForm.{AreLivesInForm}
use Rattle.dac_part_bytes.proofs.ChainLaws.{lives_takes, lives_again}
use Rattle.dac_part_bytes.proofs.reading_chains.read_lives.Goals as goal

pub returns-clause-found : goal.returns-clause-found
returns-clause-found c =
    found_call (λ x. x) (all_lives_at c.args.version (node_count c.args.config.now)) (lives_bytes c.args.version) (AreLivesInForm c.args.version (node_count c.args.config.now))
    (lives_takes c.args.version (node_count c.args.config.now)) c.args.reader c.read_all_lives.result c.read_all_lives.ensures

pub returns-clause-again : goal.returns-clause-again
returns-clause-again c =
    again_call (λ x. x) (all_lives_at c.args.version (node_count c.args.config.now)) (lives_bytes c.args.version) (AreLivesInForm c.args.version (node_count c.args.config.now))
    (lives_again c.args.version (node_count c.args.config.now) (omega (arith, c.nodes-nodes.ensures.count, c.nodes-nodes.type_inv))) c.args.reader c.read_all_lives.result c.read_all_lives.ensures
