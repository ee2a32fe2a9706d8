use Rattle.std.proofs.Common.{◌∙◌, ap}
use Rattle.dac_wishes.specs.StoredWishes.{wishes_of}
use Rattle.dac_wishes.proofs.wishes.Wishes.borrowed.Goals as goal

pub returns : goal.returns
returns c = c.of.ensures ∙ ap wishes_of c.borrowed.ensures ∙ c.self.view_is
