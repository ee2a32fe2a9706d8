use Rattle.std.proofs.Common.{◌∙◌}
use Rattle.dac_wishes.specs.laws.PermitsByKey.{permits_stored}
use Rattle.dac_wishes.proofs.permissions_ref.PermissionsRef.dots.Goals as goal

pub returns : goal.returns
returns c = rw (← c.self.view_is) (c.kept_at.ensures ∙ permits_stored c.self.inside.causal.store c.self.invariant.store c.args.key)
