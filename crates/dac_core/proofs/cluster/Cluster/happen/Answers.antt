use Rattle.std.proofs.Common.{◌≡◌, get_or, refl, subst, Ok}
use Rattle.dac_core.proofs.Common.{WorldValue, node_at, happens_refused}
use Rattle.dac_core.proofs.Readiness.{prepared_at}
use Rattle.dac_core.proofs.cluster.Cluster.happen.Goals as goal

pub returns-in-Ok-clause-prepared : goal.returns-in-Ok-clause-prepared
returns-in-Ok-clause-prepared c =
    let v = c.args.self.now in
    let here = node_at v c.args.node c.index.result.now c.requires (subst (λ (x : WorldValue). c.index.result.now ≡ get_or x.nodes c.args.node.0 c.index.result.now) c.self.view_is c.index.ensures) in
    prepared_at c.args.config.now v c.args.node c.index.result.now (Ok c.args.event.now) c.args.event.now c.in-Ok.change here refl c.in-Ok.ensures.ok c.in-Ok.ensures.fits

pub returns-in-Err-clause-fault : goal.returns-in-Err-clause-fault
returns-in-Err-clause-fault c =
    let v = c.args.self.now in
    let here = node_at v c.args.node c.index.result.now c.requires (subst (λ (x : WorldValue). c.index.result.now ≡ get_or x.nodes c.args.node.0 c.index.result.now) c.self.view_is c.index.ensures) in
    happens_refused c.args.config.now v c.args.node c.args.event.now c.index.result.now c.in-Err.why here c.in-Err.ensures.err c.in-Err.ensures.crash
