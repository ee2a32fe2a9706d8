-- A step that doesn't lower the place keeps the rule.
use Rattle.std.proofs.Common.{◌≡◌, ℕ, ◌≤◌, ◌≢◌, refl, subst, ⊎_elim, le_refl, le_trans, zero-le}
use mathlib.Core.Option.{some}
use lib.ListN.{get_elem?}
use Rattle.crossbeam_utils.specs.Register.{Admits, TurnsAt}
use Rattle.atomic_table.proofs.Lists.{at_set, at_snoc}
use Rattle.dac_pages.specs.declared.page.PageCopy.{PageCopy}
use Rattle.dac_pages.specs.Rising.{AllBelow}

pub admits : Admits (λ (p : PageCopy). AllBelow p.place) 0
admits x views h seat v at = ⊎_elim (h seat v) (λ (e : 0 ≡ v). subst (λ (z : ℕ). z ≤ x.place) e zero-le) (at_snoc views 0 v seat at)

pub rises : (seat v : ℕ) (x y : PageCopy) → x.place ≤ y.place → TurnsAt (λ (p : PageCopy). AllBelow p.place) seat v x y (λ v x y w. (v ≤ x.place) × (w ≡ y.place))
rises seat v x y up views h at = (
  y.place,
  (λ j u e. ⊎_elim (λ (t : (j ≡ seat) × (y.place ≡ u)). subst (λ (z : ℕ). z ≤ y.place) t.1 (le_refl y.place)) (λ (t : (j ≢ seat) × (get_elem? views j ≡ some u)). le_trans (h j u t.1) up)
      (at_set views seat j y.place u e)),
  (h seat v at, refl),
)
