-- Where an application runs and where it belongs, computed from a configuration and a state. This follows OTP's Design
-- Principles, chapter Distributed Applications, and application(3). An application is started at the first node of its
-- list that is up; within a tuple, at the one that runs the fewest. When its node goes down, it fails over. A stopped
-- application isn't moved, and a forbidden one is. A node of an earlier group takes it over from a later one. (This
-- project's own rules: wishes and permissions belong to one incarnation, and a tie goes by name.)
use Rattle.std.specs.Prelude.{◌≡◌, ◌⊎◌, ◌↔◌, ℕ, ◌<◌, ◌≤◌, Bool, false, not, ◌&&◌, ◌==◌, nat_lt, List, [], ◌∷◌, length, map as list_map, filter, Option, None, Some, IsSome, is_some, if◌then◌else◌}
use Rattle.std.specs.List.{range_with_len, filter_map, reduce}
use Rattle.std.specs.Option.{option_map, option_map_or, option_and_then}
use Rattle.std.specs.Ordering.{ord_min}
use Rattle.std.specs.FinMap as map
use Rattle.dac_base.specs.declared.NodeId.{NodeId}
use Rattle.dac_base.specs.declared.AppId.{AppId}
use Rattle.dac_origins.specs.declared.dot.Origin.{Origin}
use Rattle.dac_config.specs.Table.{Table, node_count, app_count, group_of, default_permission}
use Rattle.dac_chains.specs.declared.claims.Claim.{Claim}
use Rattle.dac_chains.specs.Lives.{IsLive, live_at}
use Rattle.dac_state.specs.Key.{Key}
use Rattle.dac_state.specs.PermissionsValue.{IsPermitted, is_permitted}
use Rattle.dac_state.specs.WishesValue.{SomeStands, is_wished}
use Rattle.dac_state.specs.DrainsValue.{origin, IsDrained, is_drained}
use Rattle.dac_state.specs.StateValue.{StateValue, permissions_of, wishes_of, drains_of}
use Rattle.dac_placement.specs.declared.standing.Standing.{Standing}
use Rattle.dac_placement.specs.declared.standing.Standing.TheVariants.{Unclaimed, Lost, Stopped, Barred, Upheld}
use Rattle.dac_placement.specs.declared.verdicts.Verdict.{Verdict}
use Rattle.dac_placement.specs.declared.verdicts.Verdict.TheVariants.{Start, Failover, Halted, Move, Takeover, Kept, Nobody}
use Rattle.dac_placement.specs.Ranks.{Rank, rank_cmp}

-- ---- eligibility

-- an application at an incarnation of a node
abbrev pub key_at : AppId → NodeId → ℕ → Key
key_at app node inc = record { app = app; node = node; inc = inc }

-- decided by the permits that stand there, or by the configuration if there is none (application(3), `permit`)
abbrev pub IsPermittedAt : Table → StateValue → Key → Type 0
IsPermittedAt table s key = IsPermitted key (default_permission table key.app) (permissions_of s)

-- `IsPermittedAt` as a test
abbrev pub is_permitted_at : Table → StateValue → Key → Bool
is_permitted_at table s key = is_permitted key (default_permission table key.app) (permissions_of s)

-- the application was started there and not stopped
abbrev pub IsStartedAt : StateValue → Key → Type 0
IsStartedAt s key = SomeStands key (wishes_of s)

-- `IsStartedAt` as a test
abbrev pub is_started_at : StateValue → Key → Bool
is_started_at s key = is_wished key (wishes_of s)

-- the incarnation of the node is drained, so that it must run no application (this project's own rule)
abbrev pub IsDrainedAt : StateValue → NodeId → ℕ → Type 0
IsDrainedAt s node inc = IsDrained (origin node inc) (drains_of s)

-- `IsDrainedAt` as a test
abbrev pub is_drained_at : StateValue → NodeId → ℕ → Bool
is_drained_at s node inc = is_drained (origin node inc) (drains_of s)

-- the application is permitted there, and the incarnation isn't drained
abbrev pub IsAllowedAt : Table → StateValue → Key → Type 0
IsAllowedAt table s key = IsPermittedAt table s key × ¬ (IsDrainedAt s key.node key.inc)

-- `IsAllowedAt` as a test
abbrev pub is_allowed_at : Table → StateValue → Key → Bool
is_allowed_at table s key = is_permitted_at table s key && not (is_drained_at s key.node key.inc)

-- The node is eligible for the application: the application's list names it, and it is live at an incarnation that
-- isn't drained, and at which the application is permitted and started
pub record IsEligible (table : Table) (s : StateValue) (app : AppId) (node : NodeId) : Type 0 where
  pub listed : IsSome (group_of table app node)
  pub inc : ℕ
  pub live : IsLive s.lives node inc
  pub allowed : IsAllowedAt table s (key_at app node inc)
  pub started : IsStartedAt s (key_at app node inc)

-- `IsEligible` as a test
abbrev pub is_eligible : Table → StateValue → AppId → NodeId → Bool
is_eligible table s app node =
    is_some (group_of table app node)
    && option_map_or (λ inc. is_allowed_at table s (key_at app node inc) && is_started_at s (key_at app node inc)) (live_at s.lives node) false

-- P holds of each node of the configuration that is eligible
abbrev pub EachEligible : Table → StateValue → AppId → (NodeId → Type 0) → Type 0
EachEligible table s app P = (node : NodeId) → node.0 < node_count table → IsEligible table s app node → P node

-- ---- holders and runners

-- the holder of an application: the origin of its greatest claim
abbrev pub holder_of : StateValue → AppId → Option Origin
holder_of s app = option_map (λ (claim : Claim). claim.origin) (map.get s.claims app)

-- this incarnation made the greatest claim of the application, whether it is live or not
pub record IsHolder (s : StateValue) (app : AppId) (o : Origin) : Type 0 where
  pub claim : Claim
  pub greatest : map.get s.claims app ≡ Some claim
  pub claimer : claim.origin ≡ o

-- the incarnation is live
abbrev pub IsUp : StateValue → Origin → Type 0
IsUp s o = IsLive s.lives o.node o.inc

-- `IsUp` as a test
abbrev pub is_up : StateValue → Origin → Bool
is_up s o = option_map_or (λ inc. inc == o.inc) (live_at s.lives o.node) false

-- the application runs at the node: its holder is the node's live incarnation, and the node is eligible
pub record RunsAt (table : Table) (s : StateValue) (app : AppId) (node : NodeId) : Type 0 where
  pub inc : ℕ
  pub holder : holder_of s app ≡ Some (record { node = node; inc = inc })
  pub up : IsLive s.lives node inc
  pub eligible : IsEligible table s app node

-- `RunsAt` as a test
abbrev pub runs_at : Table → StateValue → AppId → NodeId → Bool
runs_at table s app node = option_map_or (λ (o : Origin). (o.node.0 == node.0) && is_up s o) (holder_of s app) false
    && is_eligible table s app node

-- the node at which the application runs, if any: its holder's, if it runs there
abbrev pub runner_of : Table → StateValue → AppId → Option NodeId
runner_of table s app = option_and_then (λ (o : Origin). if runs_at table s app o.node then Some o.node else None) (holder_of s app)

-- the applications of the configuration
abbrev pub apps_of : Table → List AppId
apps_of table = list_map (λ n. record { 0 = n }) (range_with_len 0 (app_count table))

-- how many other applications run at the node
abbrev pub load_of : Table → StateValue → AppId → NodeId → ℕ
load_of table s app node = length (filter (λ other. not (other.0 == app.0) && runs_at table s other node) (apps_of table))

-- the list contains the application
abbrev pub IsOneOf : AppId → List AppId → Type 0
IsOneOf app [] = ⊥
IsOneOf app (a ∷ apps) = (a ≡ app) ⊎ IsOneOf app apps

-- the list contains no application twice
abbrev pub AreDistinct : List AppId → Type 0
AreDistinct [] = Unit {0}
AreDistinct (a ∷ apps) = ¬ IsOneOf a apps × AreDistinct apps

-- n is the load: the number of other applications of the configuration that run at the node
pub record IsLoad (table : Table) (s : StateValue) (app : AppId) (node : NodeId) (n : ℕ) : Type 0 where
  pub apps : List AppId
  pub distinct : AreDistinct apps
  pub each : (other : AppId)
      → IsOneOf other apps ↔ ((other.0 < app_count table) × ¬ (other ≡ app) × RunsAt table s other node)
  pub count : n ≡ length apps

-- ---- the first choice

-- m's group is earlier in the application's list than n's; a node outside the list has none
pub record IsEarlier (table : Table) (app : AppId) (m n : NodeId) : Type 0 where
  pub early : ℕ
  pub late : ℕ
  pub first : group_of table app m ≡ Some early
  pub second : group_of table app n ≡ Some late
  pub less : early < late

-- both groups exist, and the first is earlier
abbrev pub is_less : Option ℕ → Option ℕ → Bool
is_less (Some early) (Some late) = nat_lt early late
is_less None late = false
is_less (Some early) None = false

-- `IsEarlier` as a test
abbrev pub is_earlier : Table → AppId → NodeId → NodeId → Bool
is_earlier table app m n = is_less (group_of table app m) (group_of table app n)

-- n has a smaller load than m, or an equal load and no later name
pub record IsPreferred (table : Table) (s : StateValue) (app : AppId) (n m : NodeId) : Type 0 where
  pub load : ℕ
  pub other : ℕ
  pub of_n : IsLoad table s app n load
  pub of_m : IsLoad table s app m other
  pub less : (load < other) ⊎ ((load ≡ other) × (n.0 ≤ m.0))

-- The first choice is an eligible node such that no eligible node is in an earlier group, and that is preferred to each
-- of its own group. (OTP: within a tuple, the node with the fewest applications. That a tie goes by name is this
-- project's own rule.)
pub record IsFirst (table : Table) (s : StateValue) (app : AppId) (n : NodeId) : Type 0 where
  pub node : n.0 < node_count table
  pub eligible : IsEligible table s app n
  pub earliest : EachEligible table s app (λ m. ¬ IsEarlier table app m n)
  pub preferred : EachEligible table s app
      (λ m. group_of table app m ≡ group_of table app n → IsPreferred table s app n m)

-- the rank of an eligible node: group, load and name
abbrev pub rank_of : Table → StateValue → AppId → NodeId → Option Rank
rank_of table s app node =
    if is_eligible table s app node then option_map (λ group. record { group = group; load = load_of table s app node; node = node }) (group_of table app node)
    else None

-- the nodes of the configuration, in the order of their names
abbrev pub nodes_of : Table → List NodeId
nodes_of table = list_map (λ n. record { 0 = n }) (range_with_len 0 (node_count table))

-- the eligible node of the least rank
abbrev pub first_choice : Table → StateValue → AppId → Option NodeId
first_choice table s app = option_map (λ (rank : Rank). rank.node)
    (reduce (ord_min rank_cmp) (filter_map (rank_of table s app) (nodes_of table)))

-- ---- the verdict

-- the application has a holder, and P holds of it
abbrev pub HeldBy : StateValue → AppId → (Origin → Type 0) → Type 0
HeldBy s app P = (o : Origin) × (holder_of s app ≡ Some o) × P o

-- the application at its holder
abbrev pub key_of : AppId → Origin → Key
key_of app o = key_at app o.node o.inc

-- The standing of an application is the first of these that applies: it has no holder, its holder isn't live, it was
-- stopped there, or it isn't allowed there. Otherwise the holder is upheld.
abbrev pub IsStanding : Table → StateValue → AppId → Standing → Type 0
IsStanding table s app Unclaimed = holder_of s app ≡ None
IsStanding table s app Lost = HeldBy s app (λ o. ¬ IsUp s o)
IsStanding table s app (Stopped n) = HeldBy s app (λ o. (o.node ≡ n) × IsUp s o × ¬ IsStartedAt s (key_of app o))
IsStanding table s app Barred = HeldBy s app (λ o. IsUp s o × IsStartedAt s (key_of app o) × ¬ IsAllowedAt table s (key_of app o))
IsStanding table s app (Upheld n) =
    HeldBy s app (λ o. (o.node ≡ n) × IsUp s o × IsStartedAt s (key_of app o) × IsAllowedAt table s (key_of app o))

-- An application without a live and allowed holder is started, failed over or moved to the first choice, if there is
-- one. A stopped one is left alone. An upheld one is taken over exactly when an eligible node's group is earlier than
-- the holder's.
abbrev pub IsVerdict : Table → StateValue → AppId → Verdict → Type 0
IsVerdict table s app (Start n) = IsStanding table s app Unclaimed × IsFirst table s app n
IsVerdict table s app (Failover n) = IsStanding table s app Lost × IsFirst table s app n
IsVerdict table s app (Halted n) = IsStanding table s app (Stopped n)
IsVerdict table s app (Move n) = IsStanding table s app Barred × IsFirst table s app n
IsVerdict table s app (Takeover n) =
    (holder : NodeId) × IsStanding table s app (Upheld holder) × IsFirst table s app n × IsEarlier table app n holder
IsVerdict table s app (Kept n) =
    IsStanding table s app (Upheld n) × EachEligible table s app (λ m. ¬ IsEarlier table app m n)
IsVerdict table s app Nobody = EachEligible table s app (λ _. ⊥)
    × (IsStanding table s app Unclaimed ⊎ (IsStanding table s app Lost ⊎ IsStanding table s app Barred))

-- the standing at this holder
abbrev pub standing_at : Table → StateValue → AppId → Origin → Standing
standing_at table s app o =
    if not (is_up s o) then Lost
    else if not (is_started_at s (key_of app o)) then Stopped o.node
    else if not (is_allowed_at table s (key_of app o)) then Barred
    else Upheld o.node

-- the standing of the application, at its holder if it has one
abbrev pub standing_of : Table → StateValue → AppId → Standing
standing_of table s app = option_map_or (standing_at table s app) (holder_of s app) Unclaimed

-- the group of the holder, if it is upheld
abbrev pub group_held : Table → AppId → Standing → Option ℕ
group_held table app Unclaimed = None
group_held table app Lost = None
group_held table app (Stopped n) = None
group_held table app Barred = None
group_held table app (Upheld n) = group_of table app n

-- the verdict, given the standing and the first choice
abbrev pub verdict_by : Table → AppId → Standing → Option NodeId → Verdict
verdict_by table app (Stopped holder) first = Halted holder
verdict_by table app (Upheld holder) None = Kept holder
verdict_by table app (Upheld holder) (Some n) = if is_earlier table app n holder then Takeover n else Kept holder
verdict_by table app Unclaimed (Some n) = Start n
verdict_by table app Lost (Some n) = Failover n
verdict_by table app Barred (Some n) = Move n
verdict_by table app Unclaimed None = Nobody
verdict_by table app Lost None = Nobody
verdict_by table app Barred None = Nobody

-- the verdict of the application
abbrev pub verdict_of : Table → StateValue → AppId → Verdict
verdict_of table s app = verdict_by table app (standing_of table s app) (first_choice table s app)

-- the node that should claim the application
abbrev pub candidate_of : Verdict → Option NodeId
candidate_of (Start n) = Some n
candidate_of (Failover n) = Some n
candidate_of (Halted n) = None
candidate_of (Move n) = Some n
candidate_of (Takeover n) = Some n
candidate_of (Kept n) = None
candidate_of Nobody = None
