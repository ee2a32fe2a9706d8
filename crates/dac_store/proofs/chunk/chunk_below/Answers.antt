use Rattle.std.proofs.Common.{refl}
use Rattle.dac_store.proofs.ChunkLemmas.{each_unheard}
use Rattle.dac_store.proofs.chunk.chunk_below.Goals as goal

pub is_apart-requires : goal.is_apart-requires
is_apart-requires g c = c.requires.told

pub returns-then-is_apart : goal.returns-then-is_apart
returns-then-is_apart g c = record {
  below = (
    λ _. each_unheard g.met.S.DotStore.laws g.K.Ord.cmp c.args.left.now c.args.chunk.now.entries.now c.args.heard.now c.args.other_heard.now (c.is_apart.ensures c.if-is_apart.true),
    λ _. refl,
  );
  in_order = c.requires.left;
  later = λ _ k above. refl;
}

pub are_below-requires : goal.are_below-requires
are_below-requires g c = record { left = c.requires.left; part = c.requires.part }

pub returns : goal.returns
returns g c = c.are_below.ensures
