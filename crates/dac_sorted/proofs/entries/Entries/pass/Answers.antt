use Rattle.std.proofs.Common.{◌++◌, ◌∙◌, ap, sym}
use Rattle.std.proofs.lemmas.List.{take_rest}
use Rattle.std.specs.Arc.{arc_value}
use Rattle.std.specs.List.{flat_map}
use Rattle.dac_sorted.proofs.EntryLemmas.{passed_here, passed_last, still_here}
use Rattle.dac_sorted.proofs.entries.Entries.pass.Goals as goal

pub invariant_of-self : goal.invariant_of-self
invariant_of-self g c none = still_here c.self.inside.here.now _ c.if-self-gt1.true (sym (take_rest c.self.inside.here.now 1) ∙ none)

pub returns-then-self-gt1 : goal.returns-then-self-gt1
returns-then-self-gt1 g c =
    let inside = c.self.inside in
    ap (λ h. h ++ (flat_map arc_value inside.blocks.now ++ inside.last.now)) (take_rest inside.here.now 1)
    ∙ passed_here inside.here.now (flat_map arc_value inside.blocks.now ++ inside.last.now) c.args.self.now c.self.view_is c.if-self-gt1.true

pub returns : goal.returns
returns g c =
    let inside = c.self.inside in
    c.self-2.view_is ∙ c.of.ensures ∙ passed_last inside.here.now (flat_map arc_value inside.blocks.now ++ inside.last.now) c.args.self.now c.self.view_is c.self.invariant c.if-self-gt1.false
