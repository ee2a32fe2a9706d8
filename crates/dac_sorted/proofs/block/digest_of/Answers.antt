use Rattle.std.proofs.Common.{subst}
use Rattle.std.proofs.lemmas.List.{take_all}
use Rattle.std.proofs.lemmas.List.Elements.{All-more}
use Rattle.dac_sorted.specs.Digests.{SaysAll}
use Rattle.dac_sorted.proofs.block.digest_of.Goals as goal

pub loop-key-preserved : goal.loop-key-preserved
loop-key-preserved g c =
    let says = g.D.Digest.says c.put.new.self in
    All-more (λ e. says e.0 e.1) c.args.entries.now _ _ c.loop-key-test.true
    (λ i d p. c.put.ensures.more _ _ (c.loop-key.invariant i d p))
    (subst (λ e. says e.0 e.1) c.loop-key-item.is c.put.ensures.own)

pub returns : goal.returns
returns g c = subst (SaysAll (g.D.Digest.says c.loop-key.digest)) (take_all _ _ c.loop-key-test.false) c.loop-key.invariant
