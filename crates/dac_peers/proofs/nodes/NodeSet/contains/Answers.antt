use Rattle.std.proofs.Common.{ap, sym, ◌∙◌}
use Rattle.dac_peers.specs.laws.Common.{nodes_total}
use Rattle.std.specs.FinSet as set
use Rattle.dac_peers.proofs.nodes.NodeSet.contains.Goals as goal

pub returns : goal.returns
returns c = (rw c.deref.ensures.value at c.holds_key.ensures) ∙ (sym (set.contains-from_list nodes_total c.self.inside.nodes.items c.args.node) ∙ ap (λ s. set.contains s c.args.node) c.self.view_is)
