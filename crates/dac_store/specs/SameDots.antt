-- The result of `==` for dots.
use Rattle.std.proofs.Common.{Bool, ◌==◌, ◌&&◌}
use Rattle.dac_origins.specs.declared.dot.Dot.{Dot}

-- whether node, incarnation and counter are equal
abbrev pub are_same : Dot → Dot → Bool
are_same x y = ((x.origin.node.0 == y.origin.node.0) && (x.origin.inc == y.origin.inc)) && (x.n == y.n)
