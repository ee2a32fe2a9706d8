use Rattle.std.proofs.Common.{◌∙◌}
use Rattle.dac_origins.specs.laws.Basics.{fails_so}
use Rattle.dac_lattice.proofs.Putting.{absent, put_between, put_there, in_order_put}
use Rattle.dac_lattice.proofs.merging.put_entry.Goals as goal

pub returns-in-Ok-clause-ok : goal.returns-in-Ok-clause-ok
returns-in-Ok-clause-ok g c =
    put_there g.met.K.Ord.total g.met.K.MapKey.exact c.args.entries.now.items c.in-Ok.place c.args.key c.args.value c.requires
    (rw c.deref.ensures.value at c.in-Ok.ensures.bound) (rw c.deref.ensures.value at c.in-Ok.ensures.position)

pub returns-in-Ok-clause-in_order : goal.returns-in-Ok-clause-in_order
returns-in-Ok-clause-in_order g c =
    in_order_put g.met.K.Ord.total g.met.K.MapKey.exact c.args.entries.now.items _ c.args.key c.args.value c.requires
    (put_there g.met.K.Ord.total g.met.K.MapKey.exact c.args.entries.now.items c.in-Ok.place c.args.key c.args.value c.requires
    (rw c.deref.ensures.value at c.in-Ok.ensures.bound) (rw c.deref.ensures.value at c.in-Ok.ensures.position))

pub returns-in_ok-insert-in-Err-clause-ok : goal.returns-in_ok-insert-in-Err-clause-ok
returns-in_ok-insert-in-Err-clause-ok g c =
    c.in_ok-insert-in-Err.ensures.items
    ∙ put_between g.met.K.Ord.total g.met.K.MapKey.exact c.args.entries.now.items c.in-Err.place c.args.key c.args.value c.requires
    (rw c.deref.ensures.value at c.in-Err.ensures.bound) (rw c.deref.ensures.value at c.in-Err.ensures.position)

pub returns-in_ok-insert-in-Err-clause-in_order : goal.returns-in_ok-insert-in-Err-clause-in_order
returns-in_ok-insert-in-Err-clause-in_order g c =
    in_order_put g.met.K.Ord.total g.met.K.MapKey.exact c.args.entries.now.items _ c.args.key c.args.value c.requires
    (c.in_ok-insert-in-Err.ensures.items
    ∙ put_between g.met.K.Ord.total g.met.K.MapKey.exact c.args.entries.now.items c.in-Err.place c.args.key c.args.value c.requires
    (rw c.deref.ensures.value at c.in-Err.ensures.bound) (rw c.deref.ensures.value at c.in-Err.ensures.position))

pub returns-in_err-insert-in-Err-clause-first : goal.returns-in_err-insert-in-Err-clause-first
returns-in_err-insert-in-Err-clause-first g c =
    fails_so c.from_residual.result (absent g.met.K.Ord.total g.met.K.MapKey.exact c.args.entries.now.items c.in-Err.place c.args.key c.requires
    (rw c.deref.ensures.value at c.in-Err.ensures.position))
