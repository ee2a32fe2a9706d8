use Rattle.std.proofs.Common.{sym}
use Rattle.dac_origins.proofs.KeyLemmas.{found, rising_remove, has_key-remove, has_key-missing}
use Rattle.dac_origins.proofs.keys.remove_key.Goals as goal

pub returns-in-Ok-clause-rising : goal.returns-in-Ok-clause-rising
returns-in-Ok-clause-rising g c = rw c.remove.ensures.items (rising_remove g.met.K.Ord.total c.args.keys.now.items c.in-Ok.place c.requires)

pub returns-in-Ok-clause-value : goal.returns-in-Ok-clause-value
returns-in-Ok-clause-value g c q =
    rw c.remove.ensures.items (has_key-remove g.met.K.Ord.total g.met.K.MapKey.exact c.args.keys.now.items c.in-Ok.place c.args.key q c.requires (rw c.deref.ensures.value at c.in-Ok.ensures.bound) (rw c.deref.ensures.value at (c.in-Ok.ensures.position c.args.key)))

pub returns-in_default-clause-value : goal.returns-in_default-clause-value
returns-in_default-clause-value g c =
    let facts = c.binary_search.ensures in
    let here = found g.met.K.Ord.total _ c.args.key _ (rw c.deref.ensures.value c.requires) facts.bound facts.position in
    has_key-missing g.met.K.Ord.total g.met.K.MapKey.exact c.args.keys.now.items c.args.key (rw (c.in_default.is, c.deref.ensures.value) at (sym here))
