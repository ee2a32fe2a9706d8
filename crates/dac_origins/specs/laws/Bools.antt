-- Only equal booleans tie.
use Rattle.std.specs.Prelude.{true, false, refl}
use Rattle.std.specs.Ordering.{bool_cmp}
use Rattle.std.proofs.lemmas.Map.Lookups.{CmpEqualImpliesEq}

pub exact_bools : CmpEqualImpliesEq bool_cmp
exact_bools true true e = refl
exact_bools false false e = refl
exact_bools true false e = cc
exact_bools false true e = cc
