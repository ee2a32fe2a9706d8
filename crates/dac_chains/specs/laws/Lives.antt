-- Laws of the definitions in `Lives`.
use Rattle.std.specs.Prelude.{ℕ}
use Rattle.std.proofs.Common.{ap}
use Rattle.std.specs.declared.cmp.Ordering.{Ordering}
use Rattle.std.specs.Ordering.{nat_cmp, ordering_then}
use Rattle.std.specs.Cmp.{IsTotalOrder}
use Rattle.std.proofs.lemmas.Cmp.{nat_cmp_total, on_total, then_total}
use Rattle.std.proofs.lemmas.Map.Lookups.{CmpEqualImpliesEq, exact_pairs, exact_unsigned}
use Rattle.dac_lattice.specs.declared.flags.Flag.{Flag}
use Rattle.dac_lattice.specs.laws.Flags.{flags_total}
use Rattle.dac_chains.specs.declared.lives.Life.{Life}
use Rattle.dac_chains.specs.Lives.{life_cmp}

-- ---- laws

pub lives_total : IsTotalOrder life_cmp
lives_total = then_total (on_total (λ (l : Life). l.inc) nat_cmp_total) (on_total (λ (l : Life). l.flag) flags_total)

-- only equal lives tie, if only equal flags tie
pub exact_lives : (flags : Flag → Flag → Ordering) → CmpEqualImpliesEq flags → CmpEqualImpliesEq (λ (a b : Life). ordering_then (nat_cmp a.inc b.inc) (flags a.flag b.flag))
exact_lives flags exact a b h = ap (λ (p : ℕ × Flag). record { inc = p.0; flag = p.1 }) (exact_pairs nat_cmp flags exact_unsigned exact (a.inc, a.flag) (b.inc, b.flag) h)
