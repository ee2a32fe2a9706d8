use Rattle.std.proofs.Common.{◌∙◌, subst, sym}
use Rattle.std.specs.Arc.{arc_value}
use Rattle.dac_sorted.specs.Parts.{IsPartAt}
use Rattle.dac_sorted.proofs.PartLemmas.{blocks_sorted, part_at_last, part_found_at}
use Rattle.dac_sorted.proofs.parts.Parts.part_at.Goals as goal

pub place_in-place-requires : goal.place_in-place-requires
place_in-place-requires g c = record {
  in_order = rw c.deref.ensures.value (blocks_sorted g.K.Ord.cmp arc_value c.self.inside.blocks.items _ _ c.self.view_is c.requires);
  filled = rw c.deref.ensures.value c.self.invariant;
}

pub returns-in-Some : goal.returns-in-Some
returns-in-Some g c =
    let found = rw c.deref.ensures.value at c.place_in-place.ensures in
    let lookup = rw c.deref-2.ensures.value at c.in-Some.ensures.lookup in
    subst (IsPartAt g.K.Ord.cmp c.args.key c.args.self.now) (sym (c.entries.ensures ∙ c.deref-in-Some.ensures))
    (part_found_at g.met.K.Ord.total g.met.K.MapKey.exact arc_value c.args.key _ _ _ _ c.requires c.self.view_is found c.in-Some.block.now lookup.3.0 (lookup.3.1 c.in-Some.block.now))

pub returns-in-None : goal.returns-in-None
returns-in-None g c =
    let found = rw c.deref.ensures.value at c.place_in-place.ensures in
    subst (IsPartAt g.K.Ord.cmp c.args.key c.args.self.now) (sym c.as_slice.ensures.value)
    (part_at_last g.met.K.Ord.total g.met.K.MapKey.exact arc_value c.args.key _ _ _ _ c.requires c.self.view_is found (rw c.deref-2.ensures.value at c.in-None.ensures.lookup.3))
