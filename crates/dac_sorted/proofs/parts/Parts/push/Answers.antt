use Rattle.std.proofs.Common.{◌++◌, [], ◌∷◌, ◌∙◌, ap, sym, append_assoc}
use Rattle.std.specs.Arc.{arc_value}
use Rattle.std.specs.List.{flat_map}
use Rattle.dac_origins.specs.laws.Basics.{fails_so}
use Rattle.dac_sorted.proofs.parts.Parts.push.Goals as goal

pub returns-clause-ok : goal.returns-clause-ok
returns-clause-ok g c =
    ap (λ l. flat_map arc_value c.self.inside.blocks.items ++ l) (c.push_reserved.ensures.items ∙ ap (λ l. l ++ (c.args.key, c.args.value) ∷ []) c.reserve.ensures.items)
    ∙ sym (append_assoc (flat_map arc_value c.self.inside.blocks.items) c.self.inside.last.items ((c.args.key, c.args.value) ∷ []))
    ∙ ap (λ l. l ++ (c.args.key, c.args.value) ∷ []) c.self.view_is

pub returns-in_err-reserve-clause-err : goal.returns-in_err-reserve-clause-err
returns-in_err-reserve-clause-err g c = fails_so c.from_residual.result (ap (λ l. flat_map arc_value c.self.inside.blocks.items ++ l) c.reserve.ensures.items ∙ c.self.view_is)
