use Rattle.std.specs.Prelude.{Ok, Err, IfOk, IfErr}
use Rattle.std.proofs.Common.{subst}
use Rattle.dac_core.proofs.Common.{WorldValue, HappensAt, IsPreparedAt}
use Rattle.dac_core.proofs.cluster.Cluster.happen_by_itself.Goals as goal

pub returns-clause-prepared : goal.returns-clause-prepared
returns-clause-prepared c = subst (λ (v : WorldValue). IfOk c.happen.result (IsPreparedAt c.args.config.now v.nodes c.args.node (Ok c.args.event.now))) c.warm.ensures c.happen.ensures.prepared

pub returns-clause-fault : goal.returns-clause-fault
returns-clause-fault c = subst (λ (v : WorldValue). IfErr c.happen.result (λ fault. HappensAt c.args.config.now v c.args.node (Ok c.args.event.now) (Err fault) v)) c.warm.ensures c.happen.ensures.fault
