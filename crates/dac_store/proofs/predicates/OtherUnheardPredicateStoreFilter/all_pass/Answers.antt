use Rattle.std.proofs.lemmas.Bool.{not-true}
use Rattle.dac_store.proofs.ChunkLemmas.{one_unheard}
use Rattle.dac_store.proofs.predicates.OtherUnheardPredicateStoreFilter.all_pass.Goals as goal

pub returns : goal.returns
returns g c e k s says = λ _. one_unheard g.S.DotStore.has s c.args.digest.now.filter.slots c.filter.result.now.slots c.args.self.now.heard.now says c.filter.ensures (c.meets.ensures (not-true c.meets.result e))
