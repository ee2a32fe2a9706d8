use Rattle.std.proofs.Common.{refl}
use Rattle.std.proofs.lemmas.Bool.{false≢true}
use Rattle.std.specs.FinMap.{find}
use Rattle.dac_lattice.specs.Lattices.{IsOptionBelow}
use Rattle.dac_lattice.specs.laws.EntryLaws.{no_more, one_more, at_place}
use Rattle.dac_lattice.proofs.maps.MapOfLattice.leq.Goals as goal

pub loop-key-preserved : goal.loop-key-preserved
loop-key-preserved g c =
    one_more g.met.K.Ord.total g.met.K.MapKey.exact (λ k v. IsOptionBelow g.L.Lattice.below v (find g.K.Ord.cmp k c.args.other.now)) _ _ _
    c.loop-key-test.true c.loop-key-item.is c.loop-key.invariant (rw c.entries.ensures at (c.in-Some.ensures.above.0 refl))

pub returns-in_default : goal.returns-in_default
returns-in_default g c =
    let at = at_place g.met.K.Ord.total g.met.K.MapKey.exact (λ k v. IsOptionBelow g.L.Lattice.below v (find g.K.Ord.cmp k c.args.other.now)) c.entries-key-items.result.now _ _
    (rw c.entries-key-items.ensures c.tells_invariant.ensures.in_order) c.loop-key-test.true c.loop-key-item.is in (
      λ e. absurd (false≢true e),
      λ below.
          let here = at (rw c.entries-key-items.ensures below) in
          absurd (false≢true (c.in_default.ensures.above.1 (rw c.entries.ensures here))),
    )

pub returns : goal.returns
returns g c =
    let all = no_more g.met.K.Ord.total g.met.K.MapKey.exact (λ k v. IsOptionBelow g.L.Lattice.below v (find g.K.Ord.cmp k c.args.other.now)) (λ _. tt) _ _
    c.loop-key-test.false c.loop-key.invariant in
    (λ _. rw (← c.entries-key-items.ensures) all, λ _. refl)
