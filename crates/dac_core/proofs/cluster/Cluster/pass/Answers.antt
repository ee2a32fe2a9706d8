use Rattle.std.proofs.Common.{◌<◌, Err, length, refl, rules, sym, subst}
use Rattle.dac_core.proofs.Common.{WorldValue, event_of, IsMade, follows_in}
use Rattle.dac_core.proofs.Readiness.{passed_at, made_past, stayed_at}
use Rattle.dac_core.proofs.cluster.Cluster.pass.Goals as goal

pub returns-in-Ok-clause-passes : goal.returns-in-Ok-clause-passes
returns-in-Ok-clause-passes c =
    let v = c.args.self.now in
    let inside : c.args.event.now.node.0 < length c.self.inside.nodes.items = search rules in
    let there = subst (λ (x : WorldValue). c.args.event.now.node.0 < length x.nodes) c.self.view_is inside in
    passed_at c.args.config.now v c.prepare_at.new.self c.pass_on.new.self c.args.event.now c.in-Ok.change c.pass_on.result c.prepare_at.ensures.unchanged there c.in-Ok.ensures.prepared c.pass_on.ensures.ok c.pass_on.ensures.err c.pass_on.ensures.crash c.pass_on.ensures.unchanged

pub returns-in-Err-clause-passes : goal.returns-in-Err-clause-passes
returns-in-Err-clause-passes c =
    let v = c.args.self.now in
    let inside : c.args.event.now.node.0 < length c.self.inside.nodes.items = search rules in
    let there = subst (λ (x : WorldValue). c.args.event.now.node.0 < length x.nodes) c.self.view_is inside in
    record {
      answer = Err c.in-Err.fault;
      tells = refl;
      follows = follows_in c.args.config.now v c.prepare_at.new.self c.args.event.now (Err c.in-Err.fault) there
          (stayed_at c.args.config.now v c.prepare_at.new.self c.args.event.now.node (event_of v.operations v.messages c.args.event.now.what) c.in-Err.fault c.prepare_at.ensures.unchanged c.in-Err.ensures.fault);
    }

pub returns-in-Ok-clause-made : goal.returns-in-Ok-clause-made
returns-in-Ok-clause-made c =
    let v = c.args.self.now in
    let inside : c.args.event.now.node.0 < length c.self.inside.nodes.items = search rules in
    let there = subst (λ (x : WorldValue). c.args.event.now.node.0 < length x.nodes) c.self.view_is inside in
    made_past c.args.config.now v c.prepare_at.new.self c.pass_on.new.self c.args.event.now.node c.args.event.now.what c.in-Ok.change c.pass_on.result c.requires c.prepare_at.ensures.unchanged there c.in-Ok.ensures.prepared c.pass_on.ensures.ok c.pass_on.ensures.unchanged

pub returns-in-Err-clause-made : goal.returns-in-Err-clause-made
returns-in-Err-clause-made c = subst IsMade (sym c.prepare_at.ensures.unchanged) c.requires
