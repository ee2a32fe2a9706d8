-- Loads, first choices and verdicts, computed from where applications run and from the groups of the eligible nodes,
-- whatever tells these.
use Rattle.std.specs.Prelude.{◌≡◌, ◌≢◌, ◌<◌, ℕ, Bool, true, false, not, ◌&&◌, ◌==◌, ◌||◌, nat_lt, length, map as list_map, filter, Option, None, Some, if◌then◌else◌}
use Rattle.std.specs.List.{range_with_len, filter_map, reduce}
use Rattle.std.specs.Option.{option_map, option_and_then}
use Rattle.std.specs.Ordering.{ord_min}
use Rattle.dac_base.specs.declared.NodeId.{NodeId}
use Rattle.dac_base.specs.declared.AppId.{AppId}
use Rattle.dac_placement.specs.declared.leading.Lead.{Lead}
use Rattle.dac_placement.specs.declared.ranking.Choice.{Choice}
use Rattle.dac_placement.specs.declared.standing.Standing.{Standing}
use Rattle.dac_placement.specs.declared.standing.Standing.TheVariants.{Unclaimed, Lost, Stopped, Barred, Upheld}
use Rattle.dac_placement.specs.declared.verdicts.Verdict.{Verdict}
use Rattle.dac_placement.specs.declared.verdicts.Verdict.TheVariants.{Start, Failover, Halted, Move, Takeover, Kept, Nobody}
use Rattle.dac_placement.specs.Placement.{is_less}
use Rattle.dac_placement.specs.Ranks.{Rank, rank_cmp}

-- how many of the first n applications, other than this one, run at the node
abbrev pub load_by : (AppId → NodeId → Bool) → ℕ → AppId → NodeId → ℕ
load_by runs n app node =
    length (filter (λ other. not (other.0 == app.0) && runs other node) (list_map (λ k. record { 0 = k }) (range_with_len 0 n)))

-- the rank of an eligible node: group, load and name
abbrev pub rank_by : (NodeId → Option ℕ) → (NodeId → Bool) → (NodeId → ℕ) → NodeId → Option Rank
rank_by groups may loads node =
    if may node then option_map (λ group. record { group = group; load = loads node; node = node }) (groups node)
    else None

-- the rank of a node, if it is in this group and eligible
abbrev pub rank_in : (NodeId → Option ℕ) → (NodeId → Bool) → (NodeId → ℕ) → ℕ → NodeId → Option Rank
rank_in groups may loads group node = option_and_then (λ own.
    if (own == group) && may node then Some (record { group = group; load = loads node; node = node }) else None)
    (groups node)

-- the least rank of the first n nodes
abbrev pub first_of : (NodeId → Option Rank) → ℕ → Option Rank
first_of ranks n = reduce (ord_min rank_cmp) (filter_map ranks (list_map (λ k. record { 0 = k }) (range_with_len 0 n)))

-- the group and the node of a rank
abbrev pub choice_of : Rank → Choice
choice_of rank = record { group = rank.group; node = rank.node }

-- the first choice among the first n nodes
abbrev pub choice_by : (NodeId → Option ℕ) → (NodeId → Bool) → (NodeId → ℕ) → ℕ → Option Choice
choice_by groups may loads n = option_map choice_of (first_of (rank_by groups may loads) n)

-- ---- the lead, found before any load is computed

-- the least rank is in the lead's group, and is that of the lead's node if that one is alone
pub record IsLead (lead : Lead) (first : Option Rank) : Type 0 where
  pub rank : Rank
  pub least : first ≡ Some rank
  pub group : rank.group ≡ lead.group
  pub alone : lead.alone ≡ true → rank.node ≡ lead.node

-- the lead, or none because no node has a rank
abbrev pub Leads : Option Lead → Option Rank → Type 0
Leads None first = first ≡ None
Leads (Some lead) first = IsLead lead first

-- the group of a node if it is eligible
abbrev pub group_by : (NodeId → Option ℕ) → (NodeId → Bool) → NodeId → Option ℕ
group_by groups may node = if may node then groups node else None

-- this is one of the first n nodes, and an eligible one of this group
abbrev pub IsIn : (NodeId → Option ℕ) → (NodeId → Bool) → ℕ → ℕ → NodeId → Type 0
IsIn groups may n group node = (node.0 < n) × (group_by groups may node ≡ Some group)

-- the lead after a later node of this group
abbrev pub beside : Lead → ℕ → NodeId → Lead
beside lead group node =
    if nat_lt group lead.group then record { group = group; node = node; alone = true }
    else if group == lead.group then record { group = group; node = lead.node; alone = false }
    else lead

-- the lead after a later node, whose group is given if it is eligible
abbrev pub lead_with : Option Lead → Option ℕ → NodeId → Option Lead
lead_with lead None node = lead
lead_with None (Some group) node = Some (record { group = group; node = node; alone = true })
lead_with (Some lead) (Some group) node = Some (beside lead group node)

-- the lead's node is an eligible one of its group, and so is another node unless that one is alone
pub record HasNodes (groups : NodeId → Option ℕ) (may : NodeId → Bool) (n : ℕ) (lead : Lead) : Type 0 where
  pub first : IsIn groups may n lead.group lead.node
  pub second : lead.alone ≡ false → (node : NodeId) × IsIn groups may n lead.group node × (node ≢ lead.node)

-- ---- the verdict

-- the verdict, given the standing, the holder's group and the first choice
abbrev pub verdict_on : Standing → Option ℕ → Option Choice → Verdict
verdict_on (Stopped holder) late first = Halted holder
verdict_on (Upheld holder) late None = Kept holder
verdict_on (Upheld holder) late (Some first) = if is_less (Some first.group) late then Takeover first.node else Kept holder
verdict_on Unclaimed late (Some first) = Start first.node
verdict_on Lost late (Some first) = Failover first.node
verdict_on Barred late (Some first) = Move first.node
verdict_on Unclaimed late None = Nobody
verdict_on Lost late None = Nobody
verdict_on Barred late None = Nobody

-- the verdict depends on the loads: two choices of them give different ones
abbrev pub DependsOnLoads : Standing → Option ℕ → (NodeId → Option ℕ) → (NodeId → Bool) → ℕ → Type 0
DependsOnLoads standing late groups may n = (one other : NodeId → ℕ)
    × (verdict_on standing late (choice_by groups may one n) ≢ verdict_on standing late (choice_by groups may other n))

-- whether any first choice in the leading group gives the same verdict: the application is stopped, its holder is in no
-- later group, or one node leads alone
abbrev pub is_settled : Standing → Option ℕ → Lead → Bool
is_settled (Stopped holder) late lead = true
is_settled (Upheld holder) late lead = lead.alone || not (is_less (Some lead.group) late)
is_settled Unclaimed late lead = lead.alone
is_settled Lost late lead = lead.alone
is_settled Barred late lead = lead.alone
