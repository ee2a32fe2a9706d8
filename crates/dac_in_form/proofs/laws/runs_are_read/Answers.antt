use Rattle.std.specs.Prelude.{◌≤◌}
use Rattle.std.proofs.Common.{subst}
use Rattle.dac_in_form.proofs.Common.{MAX_NODES, MAX_APPS, Two}
use Rattle.dac_in_form.proofs.ReadAgain.{each_run_is_read}
use Rattle.dac_in_form.proofs.laws.runs_are_read.Goals as goal

pub returns : goal.returns
returns c = each_run_is_read c.args.config.now (c.parts_have_one_spelling.ensures Two) (c.states_have_one_spelling.ensures Two) (record { nodes = subst (λ n. n ≤ MAX_NODES) c.nodes-nodes.ensures.count c.nodes-nodes.ensures.few; apps = subst (λ n. n ≤ MAX_APPS) c.apps-apps.ensures.count c.apps-apps.ensures.few }) c.runs_are_in_form.ensures
