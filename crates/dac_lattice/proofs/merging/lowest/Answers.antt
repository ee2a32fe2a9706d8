use Rattle.dac_lattice.proofs.MergeLemmas.{lowest_so}
use Rattle.dac_lattice.proofs.merging.lowest.Goals as goal

pub returns-in-Less : goal.returns-in-Less
returns-in-Less g c = rw (c.in-Some-Some.is-0, c.in-Some-Some.is-1) (lowest_so g.K.Ord.cmp c.in-Some-Some.x.now c.in-Some-Some.y.now _ c.in-Less.ensures)

pub returns-in-Equal : goal.returns-in-Equal
returns-in-Equal g c = rw (c.in-Some-Some.is-0, c.in-Some-Some.is-1) (lowest_so g.K.Ord.cmp c.in-Some-Some.x.now c.in-Some-Some.y.now _ c.in-Equal.ensures)

pub returns-in-Greater : goal.returns-in-Greater
returns-in-Greater g c = rw (c.in-Some-Some.is-0, c.in-Some-Some.is-1) (lowest_so g.K.Ord.cmp c.in-Some-Some.x.now c.in-Some-Some.y.now _ c.in-Greater.ensures)
