use Rattle.std.proofs.Common.{◌≡◌, sym, ◌∙◌, length, Some}
use Rattle.dac_core.proofs.Common.{slice_get, changed}
use Rattle.std.proofs.Math.ListN.{length-set}
use Rattle.std.specs.Prelude.{refl}
use Rattle.std.proofs.lemmas.Option.{slice_get_read}
use Rattle.std.proofs.lemmas.Result.{on_ok_weaker}
use Rattle.dac_core.proofs.Lists.{slice_get-set}
use Rattle.dac_settle.specs.dac_model_world.laws.Follow.{changed_at}
use Rattle.dac_core.proofs.cluster.change_node.Goals as goal

pub returns-clause-nodes : goal.returns-clause-nodes
returns-clause-nodes c =
    let items = c.args.nodes.now.items in
    let me = c.args.node in
    let old = c.index_mut.result.now in
    let there : slice_get items me.0 ≡ Some old = slice_get_read items (length items) me.0 old refl c.requires.inside c.index_mut.ensures.value in
    on_ok_weaker c.perform.result (λ is. record {
      count = length-set items me.0 c.perform.new.self;
      each = λ n. slice_get-set items me.0 n c.perform.new.self c.requires.inside ∙ sym (changed_at items me old (λ v. changed v c.args.change.now) there c.perform.new.self is n);
    }) c.perform.ensures.new
