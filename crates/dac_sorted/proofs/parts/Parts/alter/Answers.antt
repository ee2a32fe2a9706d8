use Rattle.std.proofs.Common.{◌<◌, ◌≤◌, ◌++◌, ◌∙◌, Some, ap, length, rules, sym}
use Rattle.std.proofs.lemmas.Result.{IfOk-weaker}
use Rattle.std.specs.Arc.{arc_value}
use Rattle.std.specs.FinMap.{find}
use Rattle.std.specs.List.{flat_map}
use Rattle.dac_sorted.proofs.AlterLemmas.{altered_part}
use Rattle.dac_sorted.proofs.PartLemmas.{blocks_sorted, find_here, part_at_last}
use Rattle.dac_sorted.proofs.ChangeLemmas.{all_below, changed_blocks, changed_last, not_below}
use Rattle.dac_sorted.proofs.parts.Parts.alter.Goals as goal

pub place_in-place-requires-clause-in_order : goal.place_in-place-requires-clause-in_order
place_in-place-requires-clause-in_order g c = rw c.deref.ensures.value (blocks_sorted g.K.Ord.cmp arc_value c.self.inside.blocks.items _ _ c.self.view_is c.requires)

pub alter_in_block-requires-clause-in_order : goal.alter_in_block-requires-clause-in_order
alter_in_block-requires-clause-in_order g c = blocks_sorted g.K.Ord.cmp arc_value c.self.inside.blocks.items _ _ c.self.view_is c.requires

pub returns-then-place-len-clause-ok : goal.returns-then-place-len-clause-ok
returns-then-place-len-clause-ok g c =
    let does = g.C.Alter.does c.args.how.now in
    let key = c.args.key in
    let blocks = c.self.inside.blocks.items in
    let last = c.self.inside.last.items in
    let within : c.place_in-place.result < length blocks = search rules in
    let not = not_below g.met.K.Ord.total arc_value key blocks c.place_in-place.result within (rw c.deref.ensures.value at c.place_in-place.ensures) in
    IfOk-weaker c.alter_in_block.result _ _ (λ done. altered_part g.K.Ord.cmp does key (flat_map arc_value blocks) _ c.args.self.now _ c.args.target.now c.alter_in_block.new.target
    (sym (find_here g.met.K.Ord.total g.met.K.MapKey.exact key (flat_map arc_value blocks) last (rw c.self.view_is c.requires) not) ∙ ap (find g.K.Ord.cmp key) c.self.view_is)
    (λ v made. changed_blocks g.met.K.Ord.total g.met.K.MapKey.exact (flat_map arc_value blocks) last c.args.self.now _ key (Some v) c.self.view_is c.requires not made)
    (λ same. ap (λ l. l ++ last) same ∙ c.self.view_is) done) c.alter_in_block.ensures.ok

pub alter_entry-requires : goal.alter_entry-requires
alter_entry-requires g c =
    (part_at_last g.met.K.Ord.total g.met.K.MapKey.exact arc_value c.args.key _ _ _ _ c.requires c.self.view_is (rw c.deref.ensures.value at c.place_in-place.ensures) (search rules)).in_order

pub returns-clause-ok : goal.returns-clause-ok
returns-clause-ok g c =
    let does = g.C.Alter.does c.args.how.now in
    let key = c.args.key in
    let blocks = c.self.inside.blocks.items in
    let last = c.self.inside.last.items in
    let found = rw c.deref.ensures.value at c.place_in-place.ensures in
    let past : length blocks ≤ c.place_in-place.result = search rules in
    let part = part_at_last g.met.K.Ord.total g.met.K.MapKey.exact arc_value key _ _ _ _ c.requires c.self.view_is found past in
    IfOk-weaker c.alter_entry.result _ _ (λ done. altered_part g.K.Ord.cmp does key last c.alter_entry.new.entries.items c.args.self.now _ c.args.target.now c.alter_entry.new.target
    part.found
    (λ v made. ap (λ l. flat_map arc_value blocks ++ l) made ∙ changed_last g.met.K.Ord.total g.met.K.MapKey.exact (flat_map arc_value blocks) last c.args.self.now key (Some v) c.self.view_is (all_below g.met.K.Ord.total arc_value key blocks c.place_in-place.result past found))
    (λ same. ap (λ l. flat_map arc_value blocks ++ l) same ∙ c.self.view_is) done) c.alter_entry.ensures.ok
