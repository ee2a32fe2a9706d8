use Rattle.std.proofs.Common.{rules}
use Rattle.std.proofs.lemmas.List.Sorted.{answers_always}
use Rattle.dac_lattice.proofs.SearchLemmas.{searched}
use Rattle.dac_lattice.proofs.merging.place_of.Goals as goal

pub returns-clause-position : goal.returns-clause-position
returns-clause-position g c = c.binary_search_by_key.ensures.position (λ e. e.0) (answers_always _ _ _ (λ f a r g called. search rules))

pub returns-clause-place : goal.returns-clause-place
returns-clause-place g c =
    let facts = c.binary_search_by_key.ensures in
    searched g.met.K.Ord.total g.met.K.MapKey.exact c.args.entries.now c.args.key _ c.requires facts.bound (facts.position (λ e. e.0) (answers_always _ _ _ (λ f a r g called. search rules)))
