-- Orders of node and application numbers, in which only equal numbers tie, and their encodings.
use Rattle.std.specs.Prelude.{ℕ, refl}
use Rattle.std.specs.declared.cmp.Ordering.{Ordering}
use Rattle.std.specs.Ordering.{nat_cmp}
use Rattle.std.specs.Coded.{Coded, code_by, coded_ℕ}
use Rattle.dac_base.specs.declared.NodeId.{NodeId}
use Rattle.dac_base.specs.declared.AppId.{AppId}

-- nodes ordered by number
abbrev pub node_cmp : NodeId → NodeId → Ordering
node_cmp a b = nat_cmp a.0 b.0

-- applications ordered by number
abbrev pub app_cmp : AppId → AppId → Ordering
app_cmp a b = nat_cmp a.0 b.0

abbrev pub coded_node : Coded NodeId
coded_node = code_by ℕ coded_ℕ (λ s. s.0) (λ n. record { 0 = n }) (λ _. refl)

abbrev pub coded_app : Coded AppId
coded_app = code_by ℕ coded_ℕ (λ s. s.0) (λ n. record { 0 = n }) (λ _. refl)
