use Rattle.std.proofs.Common.{◌<◌, length, subst, sym}
use Rattle.std.specs.Arc.{arc_value}
use Rattle.std.proofs.lemmas.List.Elements.{All-append}
use Rattle.dac_sorted.specs.Parts.{HaveEntries}
use Rattle.dac_sorted.proofs.parts.Parts.split_last.Goals as goal

pub invariant_of-self-2 : goal.invariant_of-self-2
invariant_of-self-2 g c =
    subst (HaveEntries arc_value) (sym c.in_ok-append.ensures.items)
    (All-append (λ b. 0 < length (arc_value b)) c.reserve.new.self.items c.in_ok-made.made.items (subst (HaveEntries arc_value) (sym c.in_ok-reserve.ensures.items) c.self.invariant) c.in_ok-made.ensures.filled)
