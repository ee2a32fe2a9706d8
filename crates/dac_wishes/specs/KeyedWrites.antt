-- Writes at keys of any type, identified by the key and the dot of the operation.
use Rattle.std.specs.Prelude.{Bool}
use Rattle.std.specs.declared.cmp.Ordering.{Ordering}
use Rattle.std.specs.Ordering.{ordering_then, eq_by_cmp}
use Rattle.std.specs.Coded.{Coded, code_by, coded×}
use Rattle.std.proofs.Common.{refl}
use Rattle.dac_origins.specs.declared.dot.Dot.{Dot}
use Rattle.dac_origins.specs.Dots.{dot_cmp, coded_dot}

-- the key written, and the dot of the operation
pub record KeyedWrite (K : Type 0) : Type 0 where
  pub key : K
  pub dot : Dot

-- the write of the key by the operation with this dot
abbrev pub keyed_write : {K : Type 0} → K → Dot → KeyedWrite K
keyed_write key d = record { key = key; dot = d }

-- writes ordered by key, then by dot
abbrev pub keyed_write_cmp : {K : Type 0} → (K → K → Ordering) → KeyedWrite K → KeyedWrite K → Ordering
keyed_write_cmp R a b = ordering_then (R a.key b.key) (dot_cmp a.dot b.dot)

abbrev pub coded_keyed_write : {K : Type 0} → Coded K → Coded (KeyedWrite K)
coded_keyed_write {K = K} coded_key = code_by (K
    × Dot) (coded× coded_key coded_dot) (λ w. (w.key, w.dot)) (λ p. record { key = p.0; dot = p.1 }) (λ _. refl)

-- equality of dots
abbrev pub same_dot : Dot → Dot → Bool
same_dot = eq_by_cmp dot_cmp
