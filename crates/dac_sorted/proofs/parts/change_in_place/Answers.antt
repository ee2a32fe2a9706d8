use Rattle.std.proofs.Common.{◌<◌, ◌∙◌, ap, length, subst, sym}
use Rattle.dac_sorted.specs.Parts.{changed}
use Rattle.dac_sorted.proofs.ChangeLemmas.{some_changed}
use Rattle.dac_sorted.proofs.parts.change_in_place.Goals as goal

pub returns-in_ok-change-in-Some-clause-filled : goal.returns-in_ok-change-in-Some-clause-filled
returns-in_ok-change-in-Some-clause-filled g c = λ _.
    subst (λ m. 0 < length m) (sym (c.in_ok-change-in-Some.ensures.ok ∙ ap (changed g.K.Ord.cmp c.args.key c.args.value) c.in-Some.ensures.value))
    (some_changed g.met.K.Ord.total g.met.K.MapKey.exact _ c.args.key c.args.value c.requires
    (λ none. subst (λ m. 1 < length m) (c.entries.ensures ∙ c.in-Some.ensures.value) (c.has_room.ensures c.if-has_room.true none)))
