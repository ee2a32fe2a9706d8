use Rattle.std.proofs.Common.{ap, sym, ◌∙◌}
use Rattle.std.specs.FinMap as map
use Rattle.dac_origins.specs.laws.Dots.{origins_total}
use Rattle.dac_deltas.proofs.acks.Acks.get.Goals as goal

pub returns : goal.returns
returns c = c.get.ensures ∙ (sym (map.get-from_entries origins_total c.self.inside.numbers c.args.origin) ∙ ap (λ m. map.get m c.args.origin) c.self.view_is)
