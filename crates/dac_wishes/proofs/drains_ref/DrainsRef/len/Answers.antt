use Rattle.std.proofs.Common.{◌∙◌, length, ap, sym}
use Rattle.dac_origins.specs.laws.Dots.{origins_total, exact_origins}
use Rattle.dac_wishes.specs.DrainsValue.{DrainsValue}
use Rattle.dac_wishes.specs.StoredDrains.{drains_by_origin}
use Rattle.dac_wishes.specs.laws.VotesByKey.{votes_again}
use Rattle.dac_wishes.proofs.drains_ref.DrainsRef.len.Goals as goal

pub returns : goal.returns
returns c =
    let v = c.self.inside.causal in
    c.len.ensures ∙ ap length (rw c.store.ensures (sym (votes_again origins_total exact_origins v.store c.self.invariant.store)) ∙ ap (λ (w : DrainsValue). drains_by_origin w.standing) c.self.view_is)
