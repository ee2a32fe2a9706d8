use Rattle.std.proofs.Common.{◌≡◌, ◌∙◌, ap, sym, is_some}
use Rattle.std.specs.FinMap.{find}
use Rattle.dac_wishes.specs.Keys.{key_cmp}
use Rattle.dac_wishes.proofs.WishStoring.{is_wished_stored, some_if_stored, stored_if_some}
use Rattle.dac_wishes.proofs.Found.{is_some-copied}
use Rattle.dac_wishes.proofs.wishes_ref.WishesRef.wished.Goals as goal

pub returns-clause-value : goal.returns-clause-value
returns-clause-value c =
    let found : c.is_some.result ≡ is_some (find key_cmp c.args.key c.self.inside.causal.store) =
    c.is_some.ensures ∙ is_some-copied c.get.result ∙ ap is_some (rw c.store.ensures at c.get.ensures) in
    rw (← c.self.view_is) (found ∙ is_wished_stored c.self.inside.causal c.self.invariant c.args.key)

pub returns-clause-some : goal.returns-clause-some
returns-clause-some c =
    let found : c.is_some.result ≡ is_some (find key_cmp c.args.key c.self.inside.causal.store) =
    c.is_some.ensures ∙ is_some-copied c.get.result ∙ ap is_some (rw c.store.ensures at c.get.ensures) in
    rw (← c.self.view_is) (λ h. some_if_stored c.self.inside.causal c.self.invariant c.args.key (sym found ∙ h), λ s. found ∙ stored_if_some c.self.inside.causal c.self.invariant c.args.key s)
