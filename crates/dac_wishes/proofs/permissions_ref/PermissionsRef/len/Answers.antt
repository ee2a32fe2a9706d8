use Rattle.std.proofs.Common.{◌∙◌, length, ap, sym}
use Rattle.dac_wishes.specs.PermissionsValue.{PermissionsValue}
use Rattle.dac_wishes.specs.PermitsByKey.{permits_by_key}
use Rattle.dac_wishes.specs.laws.PermitsByKey.{permits_again}
use Rattle.dac_wishes.proofs.permissions_ref.PermissionsRef.len.Goals as goal

pub returns : goal.returns
returns c =
    let v = c.self.inside.causal in
    c.len.ensures ∙ ap length (rw c.store.ensures (sym (permits_again v.store c.self.invariant.store)) ∙ ap (λ (w : PermissionsValue). permits_by_key w.standing) c.self.view_is)
