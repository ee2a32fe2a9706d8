-- Laws of the definitions in `KeyedWrites`.
use Rattle.std.specs.Prelude.{◌≡◌, true, ◌&&◌}
use Rattle.std.proofs.Common.{ap, ◌∙◌, sym}
use Rattle.std.specs.declared.cmp.Ordering.{Ordering}
use Rattle.std.specs.Ordering.{eq_by_cmp, is_eq}
use Rattle.std.specs.Cmp.{IsTotalOrder, tied_then, Equal-is, tied_itself}
use Rattle.std.proofs.lemmas.Cmp.{on_total, then_total, eq_by_cmp_equiv}
use Rattle.std.proofs.lemmas.Map.Lookups.{CmpEqualImpliesEq, exact_pairs}
use Rattle.dac_origins.specs.declared.dot.Dot.{Dot}
use Rattle.dac_origins.specs.Dots.{dot_cmp}
use Rattle.dac_origins.specs.laws.Dots.{dots_total, exact_dots}
use Rattle.dac_wishes.specs.KeyedWrites.{KeyedWrite, keyed_write, keyed_write_cmp, same_dot}

pub same_dot_is : (d e : Dot) → same_dot d e ≡ true → d ≡ e
same_dot_is d e h = exact_dots d e ((Equal-is (dot_cmp d e)).0 h)

pub same_dot_itself : (d : Dot) → same_dot d d ≡ true
same_dot_itself d = ap is_eq (tied_itself dots_total d)

-- keys that tie are equal, if only equal keys tie
pub tied_is : {K : Type 0} {R : K → K → Ordering} → CmpEqualImpliesEq R → (a b : K) → eq_by_cmp R a b ≡ true → a ≡ b
tied_is {R = R} exact a b t = exact a b ((Equal-is (R a b)).0 t)

-- two writes are equal exactly if their keys and dots are
pub same_keyed_write : {K : Type 0} (R : K → K → Ordering) (w : KeyedWrite K) (key : K) (d : Dot) → eq_by_cmp (keyed_write_cmp R) w (keyed_write key d) ≡ (eq_by_cmp R w.key key && same_dot w.dot d)
same_keyed_write R w key d = sym (tied_then (R w.key key) (dot_cmp w.dot d))

module _ {K : Type 0} {R : K → K → Ordering} (total : IsTotalOrder R) where
  pub keyed_writes_total : IsTotalOrder (keyed_write_cmp R)
  keyed_writes_total = then_total (on_total (λ (w : KeyedWrite K). w.key) total) (on_total (λ (w : KeyedWrite K). w.dot) dots_total)

  -- a key and a dot make a write exactly if they are its own
  pub at_keyed_write : (key : K) (d : Dot) (w : KeyedWrite K) → eq_by_cmp (keyed_write_cmp R) (keyed_write key d) w ≡ (eq_by_cmp R w.key key && same_dot d w.dot)
  at_keyed_write key d w = sym (tied_then (R key w.key) (dot_cmp d w.dot)) ∙ ap (λ b. b && same_dot d w.dot) ((eq_by_cmp_equiv total).symm key w.key)

pub exact_keyed_writes : {K : Type 0} {R : K → K → Ordering} → CmpEqualImpliesEq R → CmpEqualImpliesEq (keyed_write_cmp R)
exact_keyed_writes {K = K} {R = R} exact a b h = ap (λ (p : K × Dot). keyed_write p.0 p.1) (exact_pairs R dot_cmp exact exact_dots (a.key, a.dot) (b.key, b.dot) h)
