use Rattle.std.proofs.Common.{◌∙◌, sym}
use Rattle.dac_lattice.specs.laws.Without.{none_there, removed_there}
use Rattle.dac_lattice.proofs.merging.remove_entry.Goals as goal

pub returns-in-Ok : goal.returns-in-Ok
returns-in-Ok g c =
    c.remove-removed.ensures.items
    ∙ removed_there g.K.Ord.cmp g.met.K.Ord.total g.met.K.MapKey.exact c.args.entries.now.items c.in-Ok.place c.args.key c.remove-removed.result c.requires
    (rw c.deref.ensures.value at c.in-Ok.ensures.bound) (rw c.deref.ensures.value at c.in-Ok.ensures.position)

pub returns-in_default : goal.returns-in_default
returns-in_default g c = sym (none_there g.K.Ord.cmp c.args.entries.now.items c.args.key (rw c.deref.ensures.value at c.in_default.ensures.place))
