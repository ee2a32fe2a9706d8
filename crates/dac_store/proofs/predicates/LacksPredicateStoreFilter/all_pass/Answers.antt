use Rattle.std.proofs.Common.{◌∙◌, sym}
use Rattle.std.proofs.lemmas.Bool.{not-true}
use Rattle.dac_dots.specs.DotFilters.{may_have}
use Rattle.dac_store.proofs.ChunkLemmas.{not_there}
use Rattle.dac_store.proofs.predicates.LacksPredicateStoreFilter.all_pass.Goals as goal

pub returns : goal.returns
returns g c e k s says = not_there (g.S.DotStore.has s c.args.self.now.dot) (may_have c.args.digest.now.filter.slots c.args.self.now.dot) (says c.args.self.now.dot) (sym c.has.ensures ∙ not-true c.has.result e)
