use Rattle.std.proofs.Common.{◌<◌, Err, length, rules, sym, subst}
use Rattle.dac_core.proofs.Common.{WorldValue, event_of, IsMade, follows_in}
use Rattle.dac_settle.specs.dac_model_world.laws.Follow.{hears_in}
use Rattle.dac_core.proofs.Readiness.{gone_at, made_at, stayed_at}
use Rattle.dac_core.proofs.cluster.Cluster.step.Goals as goal

pub returns-in-Ok-clause-follows : goal.returns-in-Ok-clause-follows
returns-in-Ok-clause-follows c =
    let v = c.args.self.now in
    let inside : c.args.event.now.node.0 < length c.self.inside.nodes.items = search rules in
    let there = subst (λ (x : WorldValue). c.args.event.now.node.0 < length x.nodes) c.self.view_is inside in
    follows_in c.args.config.now v c.go_on.new.self c.args.event.now c.go_on.result there
    (gone_at c.args.config.now v c.prepare_at.new.self c.go_on.new.self c.args.event.now.node (event_of v.operations v.messages c.args.event.now.what) c.in-Ok.change c.go_on.result c.prepare_at.ensures.unchanged there c.in-Ok.ensures.prepared c.go_on.ensures.ok c.go_on.ensures.err c.go_on.ensures.crash c.go_on.ensures.unchanged)

pub returns-in-Ok-clause-heard : goal.returns-in-Ok-clause-heard
returns-in-Ok-clause-heard c =
    let v = c.args.self.now in
    let inside : c.args.event.now.node.0 < length c.self.inside.nodes.items = search rules in
    let there = subst (λ (x : WorldValue). c.args.event.now.node.0 < length x.nodes) c.self.view_is inside in
    hears_in c.args.config.now v c.go_on.new.self c.args.event.now c.go_on.result
    (gone_at c.args.config.now v c.prepare_at.new.self c.go_on.new.self c.args.event.now.node (event_of v.operations v.messages c.args.event.now.what) c.in-Ok.change c.go_on.result c.prepare_at.ensures.unchanged there c.in-Ok.ensures.prepared c.go_on.ensures.ok c.go_on.ensures.err c.go_on.ensures.crash c.go_on.ensures.unchanged)

pub returns-in-Err-clause-follows : goal.returns-in-Err-clause-follows
returns-in-Err-clause-follows c =
    let v = c.args.self.now in
    let inside : c.args.event.now.node.0 < length c.self.inside.nodes.items = search rules in
    let there = subst (λ (x : WorldValue). c.args.event.now.node.0 < length x.nodes) c.self.view_is inside in
    follows_in c.args.config.now v c.prepare_at.new.self c.args.event.now (Err c.in-Err.fault) there
    (stayed_at c.args.config.now v c.prepare_at.new.self c.args.event.now.node (event_of v.operations v.messages c.args.event.now.what) c.in-Err.fault c.prepare_at.ensures.unchanged c.in-Err.ensures.fault)

pub returns-in-Ok-clause-made : goal.returns-in-Ok-clause-made
returns-in-Ok-clause-made c =
    let v = c.args.self.now in
    let inside : c.args.event.now.node.0 < length c.self.inside.nodes.items = search rules in
    let there = subst (λ (x : WorldValue). c.args.event.now.node.0 < length x.nodes) c.self.view_is inside in
    made_at c.args.config.now v c.prepare_at.new.self c.go_on.new.self c.args.event.now.node c.args.event.now.what c.in-Ok.change c.go_on.result c.requires c.prepare_at.ensures.unchanged there c.in-Ok.ensures.prepared c.go_on.ensures.ok c.go_on.ensures.unchanged

pub returns-in-Err-clause-made : goal.returns-in-Err-clause-made
returns-in-Err-clause-made c = subst IsMade (sym c.prepare_at.ensures.unchanged) c.requires
