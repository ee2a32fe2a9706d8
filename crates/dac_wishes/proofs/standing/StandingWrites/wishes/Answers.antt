use Rattle.std.proofs.Common.{◌∙◌, ap}
use Rattle.dac_wishes.specs.StandingValue.{wishes_in}
use Rattle.dac_wishes.specs.StoredWishes.{wishes_of}
use Rattle.dac_wishes.proofs.standing.StandingWrites.wishes.Goals as goal

pub of-requires : goal.of-requires
of-requires c = c.self.invariant.starts.held

pub returns : goal.returns
returns c = c.of-2.ensures ∙ ap wishes_of c.of.ensures ∙ ap wishes_in c.self.view_is
