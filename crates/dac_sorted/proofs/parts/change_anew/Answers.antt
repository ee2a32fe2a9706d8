use Rattle.std.proofs.Common.{◌∙◌, ap, subst, sym}
use Rattle.std.specs.Arc.{arc_value}
use Rattle.std.proofs.lemmas.Result.{on_ok_weaker}
use Rattle.dac_lattice.specs.Search.{IsInOrder}
use Rattle.dac_sorted.specs.Parts.{IsReplaced, changed}
use Rattle.dac_sorted.proofs.ChangeLemmas.{replaced_changed}
use Rattle.dac_sorted.proofs.ReplaceLemmas.{block_in_order}
use Rattle.dac_sorted.proofs.parts.change_anew.Goals as goal

pub change_entry-requires : goal.change_entry-requires
change_entry-requires g c =
    subst (IsInOrder g.K.Ord.cmp) (sym (c.in_ok-own.ensures ∙ c.entries.ensures ∙ c.deref.ensures))
    (block_in_order g.K.Ord.cmp arc_value c.args.blocks.now.items c.args.place c.index.result.now c.requires.in_order c.requires.within c.index.ensures)

pub returns-clause-ok : goal.returns-clause-ok
returns-clause-ok g c =
    let old = c.args.blocks.now.items in
    let new = c.put_back.new.blocks.items in
    let own = c.in_ok-change_entry.ensures.ok ∙ ap (changed g.K.Ord.cmp c.args.key c.args.value) (c.in_ok-own.ensures ∙ c.entries.ensures ∙ c.deref.ensures) in
    on_ok_weaker c.put_back.result (λ made.
    replaced_changed g.met.K.Ord.total g.met.K.MapKey.exact arc_value c.args.key c.args.value old new c.args.place c.index.result.now c.requires.in_order c.requires.within c.index.ensures c.requires.place
    (subst (λ es. IsReplaced arc_value c.args.place es old new) own made)) c.put_back.ensures.ok
