use Rattle.std.proofs.Common.{◌≡◌, ◌∙◌, ap, sym}
use Rattle.std.specs.List.{list_any}
use Rattle.dac_lattice.specs.declared.flags.Flag.{Flag}
use Rattle.dac_origins.specs.declared.dot.Dot.{Dot}
use Rattle.dac_wishes.specs.DrainsValue.{origin, is_drained, says_drained}
use Rattle.dac_wishes.specs.laws.Drained.{is_drained-is}
use Rattle.dac_wishes.proofs.drains_ref.DrainsRef.drained.Goals as goal

pub returns-clause-cases : goal.returns-clause-cases
returns-clause-cases c =
    let at = origin c.args.node c.args.inc in
    let value : c.some_says_drained.result ≡ is_drained at c.args.self.now = c.some_says_drained.ensures ∙ ap (list_any (λ (p : Dot × Flag). says_drained p.1)) c.dots.ensures in
    let cases = is_drained-is at c.args.self.now in
    (λ h. cases.0 (sym value ∙ h), λ p. value ∙ cases.1 p)
