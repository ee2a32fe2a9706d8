-- The order of keys, in which only equal keys tie, and their encoding.
use Rattle.std.specs.Prelude.{ℕ, Bool, refl}
use Rattle.std.specs.declared.cmp.Ordering.{Ordering}
use Rattle.std.specs.Ordering.{nat_cmp, ordering_then, eq_by_cmp}
use Rattle.std.specs.Coded.{Coded, code_by, coded×, coded_ℕ}
use Rattle.dac_base.specs.Ids.{app_cmp, node_cmp}
use Rattle.dac_wishes.specs.declared.key.Key.{Key}

-- keys ordered by application, then by node, then by incarnation
abbrev pub key_cmp : Key → Key → Ordering
key_cmp a b = ordering_then (app_cmp a.app b.app) (ordering_then (node_cmp a.node b.node) (nat_cmp a.inc b.inc))

-- equality of keys
abbrev pub same_key : Key → Key → Bool
same_key = eq_by_cmp key_cmp

-- a key encoded as three numbers
abbrev pub coded_key : Coded Key
coded_key = code_by (ℕ × (ℕ × ℕ)) (coded× coded_ℕ (coded× coded_ℕ coded_ℕ)) (λ k. (k.app.0, (k.node.0, k.inc)))
    (λ p. record { app = record { 0 = p.0 }; node = record { 0 = p.1.0 }; inc = p.1.1 }) (λ _. refl)
