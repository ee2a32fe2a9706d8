use Rattle.std.proofs.Common.{◌∙◌, ap, sym}
use Rattle.dac_wishes.specs.WishesValue.{WishesValue}
use Rattle.dac_wishes.specs.StartsByKey.{starts_by_key}
use Rattle.dac_wishes.specs.laws.StartsByKey.{starts_again}
use Rattle.dac_wishes.proofs.wishes_ref.WishesRef.entries.Goals as goal

pub returns : goal.returns
returns c =
    let v = c.self.inside.causal in
    c.entries.ensures ∙ rw c.store.ensures (sym (starts_again v.store c.self.invariant.store)) ∙ ap (λ (w : WishesValue). starts_by_key w.standing) c.self.view_is
