use Rattle.std.proofs.Common.{◌∙◌, ap}
use Rattle.std.proofs.lemmas.Bool.{false≢true}
use Rattle.dac_origins.specs.Dots.{origin_cmp}
use Rattle.dac_wishes.specs.StoredDrains.{drains_of}
use Rattle.dac_wishes.proofs.VoteStoring.{votes_of-none}
use Rattle.dac_wishes.proofs.drains.Drains.none.Goals as goal

pub beside-requires : goal.beside-requires
beside-requires c = rw c.empty.ensures (λ x e. absurd (false≢true e))

pub returns : goal.returns
returns c = ap drains_of (c.beside.ensures ∙ (λ i. record { store = c.empty.ensures i; context = c.args.known })) ∙ (λ i. record { known = c.args.known; standing = votes_of-none origin_cmp i })
