use Rattle.std.proofs.Common.{◌∙◌, ap}
use Rattle.std.specs.FinSet as set
use Rattle.dac_store.specs.Few.{dots_of}
use Rattle.dac_store.proofs.dot_set.DotSet.remove.Goals as goal
use Rattle.dac_store.proofs.Passing.{one_removed}

pub returns : goal.returns
returns c = one_removed (dots_of c.self.inside.few) (dots_of c.remove.new.self) c.args.dot c.remove.ensures.value ∙ ap (λ s. set.remove s c.args.dot) c.self.view_is
