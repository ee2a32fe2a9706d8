use Rattle.std.proofs.Common.{ap, ◌∙◌, sym, option_map}
use Rattle.std.specs.Option.{option_copied}
use Rattle.std.specs.FinMap as map
use Rattle.dac_base.specs.laws.Ids.{apps_total, exact_apps}
use Rattle.dac_chains.proofs.KeptLemmas.{value_of, get-kept}
use Rattle.dac_chains.proofs.claims.Claims.greatest.Goals as goal

pub returns-in-Some : goal.returns-in-Some
returns-in-Some c =
    ap (λ r. option_map value_of (option_copied r)) (sym c.in-Some.is) ∙ ap (option_map value_of) c.get_near.ensures
    ∙ sym (get-kept apps_total exact_apps c.self.inside.claims c.args.app) ∙ ap (λ m. map.get m c.args.app) c.self.view_is

pub returns-in-None : goal.returns-in-None
returns-in-None c =
    ap (λ r. option_map value_of (option_copied r)) (sym c.in-None.is) ∙ ap (option_map value_of) c.get_near.ensures
    ∙ sym (get-kept apps_total exact_apps c.self.inside.claims c.args.app) ∙ ap (λ m. map.get m c.args.app) c.self.view_is
