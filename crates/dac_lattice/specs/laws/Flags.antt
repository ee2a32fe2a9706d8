-- Laws of the definitions in `Flags`.
use Rattle.std.specs.Prelude.{◌≡◌, refl}
use Rattle.std.proofs.Common.{sym, ap, ◌∙◌, arith}
use Rattle.std.specs.declared.cmp.Ordering.{Ordering}
use Rattle.std.specs.declared.cmp.Ordering.TheVariants.{Less, Equal, Greater}
use Rattle.std.specs.Ordering.{is_eq}
use Rattle.std.specs.Cmp.{IsTotalOrder}
use Rattle.std.proofs.lemmas.Bool.{false≢true}
use Rattle.std.proofs.lemmas.Cmp.{nat_cmp_total, on_total}
use Rattle.std.proofs.lemmas.Map.Lookups.{CmpEqualImpliesEq}
use Rattle.dac_lattice.specs.declared.flags.Flag.{Flag}
use Rattle.dac_lattice.specs.declared.flags.Flag.TheVariants.{Up, Down}
use Rattle.dac_lattice.specs.Chains.{IsAny}
use Rattle.dac_lattice.specs.Lattices.{IsLattice}
use Rattle.dac_lattice.specs.Flags.{IsFlagBelow, flag_cmp, height, join_flags}

pub flags_total : IsTotalOrder flag_cmp
flags_total = on_total height nat_cmp_total

-- an order in which Up is below Down is the order of flags
pub same_flag_cmp : (cmp : Flag → Flag → Ordering) → cmp Up Up ≡ Equal → cmp Up Down ≡ Less → cmp Down Up ≡ Greater → cmp Down Down ≡ Equal → (x y : Flag) → cmp x y ≡ flag_cmp x y
same_flag_cmp cmp p q r s x y = grind arith

-- in an order in which Up is below Down, only equal flags tie
pub exact_flags : (cmp : Flag → Flag → Ordering) → cmp Up Down ≡ Less → cmp Down Up ≡ Greater → CmpEqualImpliesEq cmp
exact_flags cmp p q Up Up e = refl
exact_flags cmp p q Up Down e = absurd (false≢true (ap is_eq (sym p ∙ e)))
exact_flags cmp p q Down Up e = absurd (false≢true (ap is_eq (sym q ∙ e)))
exact_flags cmp p q Down Down e = refl

pub flags_exact : CmpEqualImpliesEq flag_cmp
flags_exact = exact_flags flag_cmp refl refl

below_itself : (x : Flag) → IsAny x → IsFlagBelow x x
below_itself Up v = tt
below_itself Down v = tt

below_through : (x y z : Flag) → IsAny x → IsAny y → IsAny z → IsFlagBelow x y → IsFlagBelow y z → IsFlagBelow x z
below_through Up y z u v w p q = tt
below_through Down Up z u v w p q = absurd p
below_through Down Down z u v w p q = q

below_both : (x y : Flag) → IsAny x → IsAny y → IsFlagBelow x y → IsFlagBelow y x → x ≡ y
below_both x y u v p q = grind arith

below_left : (x y : Flag) → IsAny x → IsAny y → IsFlagBelow x (join_flags x y)
below_left Up y u v = tt
below_left Down y u v = tt

below_right : (x y : Flag) → IsAny x → IsAny y → IsFlagBelow y (join_flags x y)
below_right Up y u v = below_itself y v
below_right Down Up u v = tt
below_right Down Down u v = tt

below_least : (x y z : Flag) → IsAny x → IsAny y → IsAny z → IsFlagBelow x z → IsFlagBelow y z → IsFlagBelow (join_flags x y) z
below_least Up y z u v w p q = q
below_least Down y z u v w p q = p

pub flag_laws : IsLattice IsAny IsFlagBelow join_flags
flag_laws = record {
  refl = below_itself;
  trans = below_through;
  antisymm = below_both;
  closed = λ x y u v. tt;
  left = below_left;
  right = below_right;
  least = below_least;
}
