use Rattle.std.proofs.Common.{◌≡◌, ◌∙◌, ap, sym, refl, [], None, Some}
use Rattle.std.specs.FinSet as set
use Rattle.std.specs.FinMap.{find}
use Rattle.std.specs.Option.{option_copied}
use Rattle.dac_origins.specs.Dots.{dot_cmp}
use Rattle.dac_origins.specs.laws.Dots.{dots_total, exact_dots}
use Rattle.dac_origins.specs.InOrder.{in_order}
use Rattle.dac_origins.specs.laws.InOrder.{in_order-one}
use Rattle.dac_store.specs.DotMaps.{store_at}
use Rattle.dac_wishes.specs.Keys.{key_cmp}
use Rattle.dac_wishes.specs.laws.StartsByKey.{dots_stored}
use Rattle.dac_wishes.proofs.wishes_ref.WishesRef.dots.Goals as goal

pub returns-in-Some : goal.returns-in-Some
returns-in-Some c =
    let v = c.self.inside.causal in
    let found : Some c.in-Some.dots.now ≡ find key_cmp c.args.key v.store = ap option_copied (sym c.in-Some.is) ∙ rw c.store.ensures at c.get.ensures in
    rw (← c.self.view_is) (c.dots.ensures ∙ ap in_order (ap (store_at set.empty) found ∙ dots_stored v.store c.self.invariant.store.in_order c.args.key))

pub returns-in-None : goal.returns-in-None
returns-in-None c =
    let v = c.self.inside.causal in
    let found : None ≡ find key_cmp c.args.key v.store = ap option_copied (sym c.in-None.is) ∙ rw c.store.ensures at c.get.ensures in
    rw (← c.self.view_is) (in_order-one dots_total exact_dots (set.empty {R = dot_cmp}) [] refl refl ∙ ap in_order (ap (store_at set.empty) found ∙ dots_stored v.store c.self.invariant.store.in_order c.args.key))
