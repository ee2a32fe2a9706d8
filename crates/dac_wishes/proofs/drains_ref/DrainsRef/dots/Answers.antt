use Rattle.std.proofs.Common.{◌∙◌}
use Rattle.dac_origins.specs.laws.Dots.{origins_total, exact_origins}
use Rattle.dac_wishes.specs.DrainsValue.{origin}
use Rattle.dac_wishes.specs.laws.VotesByKey.{votes_stored}
use Rattle.dac_wishes.proofs.drains_ref.DrainsRef.dots.Goals as goal

pub returns : goal.returns
returns c = rw (← c.self.view_is) (c.kept_at.ensures ∙ votes_stored origins_total exact_origins c.self.inside.causal.store c.self.invariant.store (origin c.args.node c.args.inc))
