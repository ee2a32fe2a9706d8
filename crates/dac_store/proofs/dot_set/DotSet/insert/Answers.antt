use Rattle.std.proofs.Common.{◌∙◌, ap}
use Rattle.std.specs.FinSet as set
use Rattle.dac_origins.specs.laws.Dots.{dots_total, exact_dots}
use Rattle.dac_origins.specs.laws.KeyLaws.{one_inserted}
use Rattle.dac_store.specs.Few.{dots_of}
use Rattle.dac_store.proofs.dot_set.DotSet.insert.Goals as goal

pub returns-clause-ok : goal.returns-clause-ok
returns-clause-ok c = one_inserted dots_total exact_dots (dots_of c.self.inside.few) (dots_of c.insert.new.self) c.args.dot c.in_ok-insert.ensures.ok ∙ ap (λ s. set.insert s c.args.dot) c.self.view_is
