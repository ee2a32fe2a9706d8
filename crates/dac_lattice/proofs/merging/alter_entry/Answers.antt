use Rattle.std.proofs.Common.{◌∙◌, Some, ap, slice_set, sym}
use Rattle.dac_lattice.proofs.Putting.{put_there}
use Rattle.dac_lattice.proofs.merging.alter_entry.Goals as goal

pub returns-in_ok-alter-in-Ok-clause-ok : goal.returns-in_ok-alter-in-Ok-clause-ok
returns-in_ok-alter-in-Ok-clause-ok g c =
    let es = c.args.entries.now.items in
    let entry = c.index_mut-entry.result.now in
    let is = c.index_mut-entry.ensures.value in
    let bound = rw c.deref.ensures.value at c.in-Ok.ensures.bound in
    let position = rw c.deref.ensures.value at c.in-Ok.ensures.position in
    let place = rw c.deref.ensures.value at c.in-Ok.ensures.place in
    let key = g.met.K.MapKey.exact _ _ (ap (λ e. g.K.Ord.cmp e.0 c.args.key) is ∙ position entry) in
    record {
      value = entry.1;
      made = c.alter.new.value;
      found = place.1 entry ∙ ap (λ e. Some e.1) (sym is);
      done = c.in_ok-alter-in-Ok.ensures.ok;
      entries = ap (λ k. slice_set es c.in-Ok.place (k, c.alter.new.value)) key
          ∙ put_there g.met.K.Ord.total g.met.K.MapKey.exact es c.in-Ok.place c.args.key c.alter.new.value c.requires bound position;
    }
