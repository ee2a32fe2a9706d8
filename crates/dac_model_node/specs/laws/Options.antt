-- Optional values.
use Rattle.std.proofs.Common.{◌≡◌, Some, ap}
use Rattle.dac_model_node.specs.laws.Common.{unwrap_or}

pub some_same : {X : Type 0} (x y : X) → Some x ≡ Some y → x ≡ y
some_same x y e = ap (λ o. unwrap_or o x) e
