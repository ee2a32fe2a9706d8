use Rattle.std.proofs.Common.{◌≡◌, ◌∙◌, get_or, sym, ap, subst, Err, Some}
use Rattle.dac_core.proofs.Common.{Message, Crash, Refused, WorldValue, counted, HappensAt, node_at, happens_refused}
use Rattle.dac_messages.specs.declared.event.Event.TheVariants.{Hear}
use Rattle.dac_settle.specs.dac_model_world.ModelWorld.{heard_by}
use Rattle.dac_core.proofs.Readiness.{prepared_at, message_by_dots}
use Rattle.dac_core.proofs.cluster.Cluster.deliver.Goals as goal

no_crash : {m : Message} {P : Type 0} → Hear m ≡ Crash → P
no_crash e = cc

pub prepare_hear_by_dots-requires : goal.prepare_hear_by_dots-requires
prepare_hear_by_dots-requires c =
    let v = c.args.self.now in
    let m = c.in-Some.message.now in
    let there : counted v.messages c.args.number ≡ Some m = ap (λ (x : WorldValue). counted x.messages c.args.number) (sym c.self.view_is) ∙ ap (λ xs. counted xs c.args.number) (sym c.as_slice.ensures.value) ∙ sym c.in-Some.ensures in
    let here = node_at v c.args.node c.index.result.now c.requires.inside (subst (λ (x : WorldValue). c.index.result.now ≡ get_or x.nodes c.args.node.0 c.index.result.now) c.self.view_is c.index.ensures) in
    message_by_dots v c.args.node c.index.result.now c.args.number m c.heard_dots_are_order.ensures.states c.requires.made here there

pub returns-in-Ok-clause-prepared : goal.returns-in-Ok-clause-prepared
returns-in-Ok-clause-prepared c =
    let v = c.args.self.now in
    let m = c.in-Some.message.now in
    let there : counted v.messages c.args.number ≡ Some m = ap (λ (x : WorldValue). counted x.messages c.args.number) (sym c.self.view_is) ∙ ap (λ xs. counted xs c.args.number) (sym c.as_slice.ensures.value) ∙ sym c.in-Some.ensures in
    let here = node_at v c.args.node c.index.result.now c.requires.inside (subst (λ (x : WorldValue). c.index.result.now ≡ get_or x.nodes c.args.node.0 c.index.result.now) c.self.view_is c.index.ensures) in
    prepared_at c.args.config.now v c.args.node c.index.result.now (heard_by (counted v.messages c.args.number)) (Hear m) c.in-Ok.change here (ap heard_by there) (c.in-Ok.ensures.ok c.args.node) c.in-Ok.ensures.fits

pub returns-in-Err-clause-fault : goal.returns-in-Err-clause-fault
returns-in-Err-clause-fault c =
    let v = c.args.self.now in
    let m = c.in-Some.message.now in
    let there : counted v.messages c.args.number ≡ Some m = ap (λ (x : WorldValue). counted x.messages c.args.number) (sym c.self.view_is) ∙ ap (λ xs. counted xs c.args.number) (sym c.as_slice.ensures.value) ∙ sym c.in-Some.ensures in
    let here = node_at v c.args.node c.index.result.now c.requires.inside (subst (λ (x : WorldValue). c.index.result.now ≡ get_or x.nodes c.args.node.0 c.index.result.now) c.self.view_is c.index.ensures) in
    subst (λ o. HappensAt c.args.config.now v c.args.node (heard_by o) (Err (Refused c.in-Err.why)) v) (sym there)
    (happens_refused c.args.config.now v c.args.node (Hear m) c.index.result.now c.in-Err.why here (c.in-Err.ensures.err c.args.config.now) no_crash)
