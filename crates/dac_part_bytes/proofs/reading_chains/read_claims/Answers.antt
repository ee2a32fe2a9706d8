use Rattle.std.proofs.Common.{arith}
use Rattle.dac_part_bytes.proofs.Common.{found_call, again_call, all_claims_at, claims_bytes}
use Rattle.dac_part_bytes.specs.ChainForm.{AreClaimsInForm}
use Rattle.dac_part_bytes.proofs.ChainLaws.{claims_takes, claims_again}
use Rattle.dac_part_bytes.proofs.reading_chains.read_claims.Goals as goal

pub returns-clause-found : goal.returns-clause-found
returns-clause-found c =
    found_call (λ x. x) (all_claims_at c.args.version c.args.config.now) (claims_bytes c.args.version) (AreClaimsInForm c.args.version c.args.config.now)
    (claims_takes c.args.version c.args.config.now) c.args.reader c.read_all_claims.result c.read_all_claims.ensures

pub returns-clause-again : goal.returns-clause-again
returns-clause-again c =
    again_call (λ x. x) (all_claims_at c.args.version c.args.config.now) (claims_bytes c.args.version) (AreClaimsInForm c.args.version c.args.config.now)
    (claims_again c.args.version c.args.config.now (omega (arith, c.nodes-nodes.ensures.count, c.nodes-nodes.type_inv)) (omega (arith, c.apps-apps.ensures.count, c.apps-apps.type_inv))) c.args.reader c.read_all_claims.result c.read_all_claims.ensures
