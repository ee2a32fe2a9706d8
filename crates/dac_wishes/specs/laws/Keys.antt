-- Laws of the definitions in `Keys`.
use Rattle.std.specs.Prelude.{◌≡◌, ℕ, true}
use Rattle.std.proofs.Common.{ap}
use Rattle.std.specs.declared.cmp.Ordering.{Ordering}
use Rattle.std.specs.Ordering.{nat_cmp, ordering_then, is_eq}
use Rattle.std.specs.Cmp.{IsTotalOrder, Equal-is, tied_itself}
use Rattle.std.proofs.lemmas.Cmp.{nat_cmp_total, on_total, then_total}
use Rattle.std.proofs.lemmas.Map.Lookups.{CmpEqualImpliesEq, exact_pairs, exact_unsigned}
use Rattle.dac_base.specs.declared.AppId.{AppId}
use Rattle.dac_base.specs.declared.NodeId.{NodeId}
use Rattle.dac_base.specs.Ids.{app_cmp, node_cmp}
use Rattle.dac_base.specs.laws.Ids.{apps_total, nodes_total, exact_apps, exact_nodes}
use Rattle.dac_wishes.specs.declared.key.Key.{Key}
use Rattle.dac_wishes.specs.Keys.{key_cmp, same_key}

pub keys_total : IsTotalOrder key_cmp
keys_total = then_total (on_total (λ (k : Key). k.app) apps_total) (then_total (on_total (λ (k : Key). k.node) nodes_total) (on_total (λ (k : Key). k.inc) nat_cmp_total))

-- a node and an incarnation of it
abbrev Incarnation : Type 0
Incarnation = NodeId × ℕ

abbrev incarnation_cmp : Incarnation → Incarnation → Ordering
incarnation_cmp x y = ordering_then (node_cmp x.0 y.0) (nat_cmp x.1 y.1)

pub exact_keys : CmpEqualImpliesEq key_cmp
exact_keys a b h = ap (λ (p : AppId × Incarnation). record { app = p.0; node = p.1.0; inc = p.1.1 })
    (exact_pairs app_cmp incarnation_cmp exact_apps (exact_pairs node_cmp nat_cmp exact_nodes exact_unsigned) (a.app, (a.node, a.inc)) (b.app, (b.node, b.inc)) h)

-- keys that `same_key` accepts are equal
pub same_key_is : (a b : Key) → same_key a b ≡ true → a ≡ b
same_key_is a b t = exact_keys a b ((Equal-is (key_cmp a b)).0 t)

pub same_key_itself : (k : Key) → same_key k k ≡ true
same_key_itself k = ap is_eq (tied_itself keys_total k)
