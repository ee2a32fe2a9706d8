use Rattle.std.proofs.Common.{◌<◌, ◌≤◌, ◌++◌, ◌∙◌, ap, length, rules}
use Rattle.std.specs.Arc.{arc_value}
use Rattle.std.specs.List.{flat_map}
use Rattle.std.proofs.lemmas.Result.{on_err_weaker, on_ok_weaker}
use Rattle.dac_sorted.proofs.ChangeLemmas.{all_below, changed_blocks, changed_last, not_below}
use Rattle.dac_sorted.proofs.PartLemmas.{blocks_sorted, part_at_last}
use Rattle.dac_sorted.proofs.parts.Parts.change.Goals as goal

pub place_in-place-requires : goal.place_in-place-requires
place_in-place-requires g c =
    let whole = c.self.view_is ∙ c.in_ok-split_last.ensures in
    record {
      in_order = rw c.deref.ensures.value (blocks_sorted g.K.Ord.cmp arc_value c.self.inside.blocks.items _ _ whole c.requires);
      filled = rw c.deref.ensures.value c.self.invariant;
    }

pub change_block-requires : goal.change_block-requires
change_block-requires g c =
    let whole = c.self.view_is ∙ c.in_ok-split_last.ensures in
    record {
      in_order = blocks_sorted g.K.Ord.cmp arc_value c.self.inside.blocks.items _ _ whole c.requires;
      filled = c.self.invariant;
      place = rw c.deref.ensures.value at c.place_in-place.ensures;
      within = search rules;
    }

pub returns-then-place-len-clause-ok : goal.returns-then-place-len-clause-ok
returns-then-place-len-clause-ok g c =
    let blocks = c.self.inside.blocks.items in
    let found = rw c.deref.ensures.value at c.place_in-place.ensures in
    let within : c.place_in-place.result < length blocks = search rules in
    on_ok_weaker c.change_block.result
    (changed_blocks g.met.K.Ord.total g.met.K.MapKey.exact (flat_map arc_value blocks) c.self.inside.last.items _ _ c.args.key c.args.value (c.self.view_is ∙ c.in_ok-split_last.ensures) c.requires
    (not_below g.met.K.Ord.total arc_value c.args.key blocks c.place_in-place.result within found)) c.change_block.ensures.ok

pub returns-then-place-len-clause-err : goal.returns-then-place-len-clause-err
returns-then-place-len-clause-err g c =
    on_err_weaker c.change_block.result (λ same. ap (λ l. l ++ c.self.inside.last.items) same ∙ c.self.view_is ∙ c.in_ok-split_last.ensures) c.change_block.ensures.err

pub change_entry-requires : goal.change_entry-requires
change_entry-requires g c =
    let found = rw c.deref.ensures.value at c.place_in-place.ensures in
    (part_at_last g.met.K.Ord.total g.met.K.MapKey.exact arc_value c.args.key _ _ _ _ c.requires (c.self.view_is ∙ c.in_ok-split_last.ensures) found (search rules)).in_order

pub returns-clause-ok : goal.returns-clause-ok
returns-clause-ok g c =
    let blocks = c.self.inside.blocks.items in
    let found = rw c.deref.ensures.value at c.place_in-place.ensures in
    let past : length blocks ≤ c.place_in-place.result = search rules in
    on_ok_weaker c.change_entry.result (λ made.
    ap (λ l. flat_map arc_value blocks ++ l) made
    ∙ changed_last g.met.K.Ord.total g.met.K.MapKey.exact (flat_map arc_value blocks) c.self.inside.last.items _ c.args.key c.args.value (c.self.view_is ∙ c.in_ok-split_last.ensures)
    (all_below g.met.K.Ord.total arc_value c.args.key blocks c.place_in-place.result past found)) c.change_entry.ensures.ok

pub returns-clause-err : goal.returns-clause-err
returns-clause-err g c =
    on_err_weaker c.change_entry.result (λ same. ap (λ l. flat_map arc_value c.self.inside.blocks.items ++ l) same ∙ c.self.view_is ∙ c.in_ok-split_last.ensures) c.change_entry.ensures.err
