use Rattle.std.proofs.lemmas.Bool.{not-true}
use Rattle.dac_store.proofs.ChunkLemmas.{apart_unheard}
use Rattle.dac_store.proofs.chunk.is_apart.Goals as goal

pub returns-in-Some : goal.returns-in-Some
returns-in-Some g c e =
    apart_unheard g.S.DotStore.has c.args.chunk.now.entries.now c.in-Some.digest.now.filter.slots c.filter.result.now.slots c.args.heard.now (rw c.in-Some.is at c.requires) c.filter.ensures (c.meets.ensures (not-true c.meets.result e))
