use Rattle.dac_sorted.specs.laws.Parted.{fewer_left}
use Rattle.dac_store.proofs.dot_map.DotMap.first_heard.Goals as goal

pub chunk_first_heard-requires : goal.chunk_first_heard-requires
chunk_first_heard-requires g c = c.in-Some.ensures.said

pub loop-chunk-smaller : goal.loop-chunk-smaller
loop-chunk-smaller g c = fewer_left c.loop-chunk.chunks c.in-Some.chunk.entries.now c.next.new.self c.in-Some.ensures.parted c.in-Some.ensures.some
