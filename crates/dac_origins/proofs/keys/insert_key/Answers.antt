use Rattle.std.proofs.Common.{sym}
use Rattle.dac_origins.specs.laws.Basics.{fails_so}
use Rattle.dac_origins.proofs.KeyLemmas.{found, has_key-insert, has_key-again, rising_searched}
use Rattle.dac_origins.proofs.keys.insert_key.Goals as goal

pub returns-in_ok-insert-clause-rising : goal.returns-in_ok-insert-clause-rising
returns-in_ok-insert-clause-rising g c =
    rw c.in_ok-insert.ensures.items (rising_searched g.met.K.Ord.total _ _ _ c.requires (rw c.deref.ensures.value at c.in-Err.ensures.bound) (rw c.deref.ensures.value at c.in-Err.ensures.position))

pub returns-in_ok-insert-clause-ok : goal.returns-in_ok-insert-clause-ok
returns-in_ok-insert-clause-ok g c q = rw c.in_ok-insert.ensures.items (has_key-insert g.met.K.Ord.total _ _ _ q)

pub returns-in_default-clause-ok : goal.returns-in_default-clause-ok
returns-in_default-clause-ok g c q =
    let facts = c.binary_search.ensures in
    let here = found g.met.K.Ord.total _ c.args.key _ (rw c.deref.ensures.value c.requires) facts.bound facts.position in
    has_key-again g.met.K.Ord.total g.met.K.MapKey.exact _ _ (rw (c.in_default.is, c.deref.ensures.value) at (sym here)) q

pub returns-in_err-insert-clause-first : goal.returns-in_err-insert-clause-first
returns-in_err-insert-clause-first g c =
    let facts = c.binary_search.ensures in
    let here = found g.met.K.Ord.total _ c.args.key _ (rw c.deref.ensures.value c.requires) facts.bound facts.position in
    fails_so c.from_residual.result (rw (c.in-Err.is, c.deref.ensures.value) at (sym here))
