use Rattle.std.proofs.Common.{◌≡◌, ◌∙◌, get_or, sym, ap, subst, Err, Some}
use Rattle.dac_core.proofs.Common.{Operation, Crash, Refused, WorldValue, counted, HappensAt, node_at, happens_refused}
use Rattle.dac_messages.specs.declared.event.Event.TheVariants.{HearOp}
use Rattle.dac_settle.specs.dac_model_world.ModelWorld.{handed_by}
use Rattle.dac_core.proofs.Readiness.{prepared_at, operation_by_dot}
use Rattle.dac_core.proofs.cluster.Cluster.hand.Goals as goal

no_crash : {m : Operation} {P : Type 0} → HearOp m ≡ Crash → P
no_crash e = cc

pub prepare_hear_op_by_dot-requires : goal.prepare_hear_op_by_dot-requires
prepare_hear_op_by_dot-requires c =
    let v = c.args.self.now in
    let m = c.in-Some.operation.now in
    let there : counted v.operations c.args.number ≡ Some m = ap (λ (x : WorldValue). counted x.operations c.args.number) (sym c.self.view_is) ∙ ap (λ xs. counted xs c.args.number) (sym c.as_slice.ensures.value) ∙ sym c.in-Some.ensures in
    let here = node_at v c.args.node c.index.result.now c.requires.inside (subst (λ (x : WorldValue). c.index.result.now ≡ get_or x.nodes c.args.node.0 c.index.result.now) c.self.view_is c.index.ensures) in
    operation_by_dot v c.args.node c.index.result.now c.args.number m c.heard_dots_are_order.ensures.operations c.requires.made here there

pub returns-in-Ok-clause-prepared : goal.returns-in-Ok-clause-prepared
returns-in-Ok-clause-prepared c =
    let v = c.args.self.now in
    let m = c.in-Some.operation.now in
    let there : counted v.operations c.args.number ≡ Some m = ap (λ (x : WorldValue). counted x.operations c.args.number) (sym c.self.view_is) ∙ ap (λ xs. counted xs c.args.number) (sym c.as_slice.ensures.value) ∙ sym c.in-Some.ensures in
    let here = node_at v c.args.node c.index.result.now c.requires.inside (subst (λ (x : WorldValue). c.index.result.now ≡ get_or x.nodes c.args.node.0 c.index.result.now) c.self.view_is c.index.ensures) in
    prepared_at c.args.config.now v c.args.node c.index.result.now (handed_by (counted v.operations c.args.number)) (HearOp m) c.in-Ok.change here (ap handed_by there) (c.in-Ok.ensures.ok c.args.config.now c.args.node) c.in-Ok.ensures.fits

pub returns-in-Err-clause-fault : goal.returns-in-Err-clause-fault
returns-in-Err-clause-fault c =
    let v = c.args.self.now in
    let m = c.in-Some.operation.now in
    let there : counted v.operations c.args.number ≡ Some m = ap (λ (x : WorldValue). counted x.operations c.args.number) (sym c.self.view_is) ∙ ap (λ xs. counted xs c.args.number) (sym c.as_slice.ensures.value) ∙ sym c.in-Some.ensures in
    let here = node_at v c.args.node c.index.result.now c.requires.inside (subst (λ (x : WorldValue). c.index.result.now ≡ get_or x.nodes c.args.node.0 c.index.result.now) c.self.view_is c.index.ensures) in
    subst (λ o. HappensAt c.args.config.now v c.args.node (handed_by o) (Err (Refused c.in-Err.why)) v) (sym there)
    (happens_refused c.args.config.now v c.args.node (HearOp m) c.index.result.now c.in-Err.why here (c.in-Err.ensures.err c.args.config.now) no_crash)
