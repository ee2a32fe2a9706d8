use Rattle.std.proofs.Common.{sym, ap, subst, ◌∙◌, true≢false}
use Rattle.dac_node.proofs.Common.{arc_value, KnowsOwnBoot}
use Rattle.dac_node.proofs.Knows.{knows-join}
use Rattle.dac_node.proofs.running.Running.gain.Goals as goal

pub invariant_of-self-in-Ok : goal.invariant_of-self-in-Ok
invariant_of-self-in-Ok c =
    let own = c.self.inside.origin in
    let sound = c.self.invariant.0 in (
      record {
        knows = subst (KnowsOwnBoot own) (sym c.in-Ok.ensures.ok) (knows-join own (arc_value c.self.inside.state) c.delta.result.now sound.knows);
        order = sound.order;
      },
      λ fresh. absurd (true≢false (sym fresh ∙ ap (λ shown. shown.1) c.goes_stale.ensures)),
    )
