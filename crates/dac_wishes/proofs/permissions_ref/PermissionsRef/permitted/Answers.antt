use Rattle.std.proofs.Common.{◌≡◌, ◌∙◌, ap, sym}
use Rattle.dac_wishes.specs.PermissionsValue.{is_permitted, is_permitted_by}
use Rattle.dac_wishes.specs.laws.Permitted.{is_permitted-is}
use Rattle.dac_wishes.proofs.permissions_ref.PermissionsRef.permitted.Goals as goal

pub returns-clause-cases : goal.returns-clause-cases
returns-clause-cases c =
    let value : c.permitted_by.result ≡ is_permitted c.args.key c.args.default c.args.self.now = c.permitted_by.ensures ∙ ap (is_permitted_by c.args.default) c.dots.ensures in
    let cases = is_permitted-is c.args.key c.args.default c.args.self.now in
    (λ h. cases.0 (sym value ∙ h), λ p. value ∙ cases.1 p)
