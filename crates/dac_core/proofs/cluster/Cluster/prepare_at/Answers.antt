use Rattle.std.proofs.Common.{Err, IfOk, IfErr, sym, subst}
use Rattle.dac_core.proofs.Common.{What, event_of, HappensAt, IsPreparedAt}
use Rattle.dac_core.proofs.cluster.Cluster.prepare_at.Goals as goal

pub returns-in-Deliver-clause-prepared : goal.returns-in-Deliver-clause-prepared
returns-in-Deliver-clause-prepared c =
    let v = c.args.self.now in
    subst (λ (what : What). IfOk c.deliver.result (IsPreparedAt c.args.config.now v.nodes c.args.node (event_of v.operations v.messages what))) (sym c.in-Deliver.is) c.deliver.ensures.prepared

pub returns-in-Hand-clause-prepared : goal.returns-in-Hand-clause-prepared
returns-in-Hand-clause-prepared c =
    let v = c.args.self.now in
    subst (λ (what : What). IfOk c.hand.result (IsPreparedAt c.args.config.now v.nodes c.args.node (event_of v.operations v.messages what))) (sym c.in-Hand.is) c.hand.ensures.prepared

pub returns-in-Deliver-clause-fault : goal.returns-in-Deliver-clause-fault
returns-in-Deliver-clause-fault c =
    let v = c.args.self.now in
    subst (λ (what : What). IfErr c.deliver.result (λ fault. HappensAt c.args.config.now v c.args.node (event_of v.operations v.messages what) (Err fault) v)) (sym c.in-Deliver.is) c.deliver.ensures.fault

pub returns-in-Hand-clause-fault : goal.returns-in-Hand-clause-fault
returns-in-Hand-clause-fault c =
    let v = c.args.self.now in
    subst (λ (what : What). IfErr c.hand.result (λ fault. HappensAt c.args.config.now v c.args.node (event_of v.operations v.messages what) (Err fault) v)) (sym c.in-Hand.is) c.hand.ensures.fault
