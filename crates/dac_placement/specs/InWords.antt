-- The functions of placement, such as `is_eligible`, agree with the definitions in words, such as `IsEligible`, for
-- every configuration and every state, even one that no operation produced.
use Rattle.std.specs.Prelude.{◌≡◌, ◌↔◌, ℕ, ◌<◌, ◌≤◌, true, false, List, length, None, Some, IsSome, MatchOption}
use Rattle.dac_origins.specs.declared.dot.Origin.{Origin}
use Rattle.dac_chains.specs.Lives.{IsLive}
use Rattle.dac_state.specs.PermissionsValue.{NoneStands}
use Rattle.dac_placement.specs.declared.verdicts.Verdict.TheVariants.{Halted, Takeover, Kept}
use Rattle.dac_placement.specs.declared.standing.Standing.{Standing}
use Rattle.dac_placement.specs.declared.standing.Standing.TheVariants.{Unclaimed, Lost, Stopped, Barred, Upheld}
use Rattle.dac_base.specs.declared.NodeId.{NodeId}
use Rattle.dac_base.specs.declared.AppId.{AppId}
use Rattle.dac_config.specs.Table.{Table, node_count, app_count, group_of, default_permission}
use Rattle.dac_state.specs.StateValue.{StateValue, permissions_of}
use Rattle.dac_placement.specs.Placement.{holder_of, key_at, key_of, IsUp, IsPermittedAt, IsStartedAt, IsDrainedAt, IsEligible, is_eligible, EachEligible, IsEarlier, RunsAt, runs_at, runner_of, IsOneOf, AreDistinct, IsFirst, first_choice, IsStanding, standing_of, IsVerdict, verdict_of, candidate_of}

-- eligibility
abbrev pub EligibleInWords : Type 0
EligibleInWords = (table : Table) (s : StateValue) (app : AppId) (node : NodeId)
    → (is_eligible table s app node ≡ true) ↔ IsEligible table s app node

-- whether the application runs at a node
abbrev pub RunsInWords : Type 0
RunsInWords = (table : Table) (s : StateValue) (app : AppId) (node : NodeId)
    → (runs_at table s app node ≡ true) ↔ RunsAt table s app node

-- the node at which the application runs
abbrev pub RunnerInWords : Type 0
RunnerInWords = (table : Table) (s : StateValue) (app : AppId) (node : NodeId)
    → (runner_of table s app ≡ Some node) ↔ RunsAt table s app node

-- the first choice; there is none only if no node is eligible
abbrev pub FirstInWords : Type 0
FirstInWords = (table : Table) (s : StateValue) (app : AppId)
    → MatchOption (first_choice table s app) (EachEligible table s app (λ _. ⊥)) (λ node. IsFirst table s app node)

-- the standing of an application at its holder
abbrev pub StandingInWords : Type 0
StandingInWords = (table : Table) (s : StateValue) (app : AppId) → IsStanding table s app (standing_of table s app)

-- the verdict
abbrev pub VerdictInWords : Type 0
VerdictInWords = (table : Table) (s : StateValue) (app : AppId) → IsVerdict table s app (verdict_of table s app)

-- the candidate of a verdict is the first choice
abbrev pub CandidateInWords : Type 0
CandidateInWords = (table : Table) (s : StateValue) (app : AppId) (node : NodeId)
    → candidate_of (verdict_of table s app) ≡ Some node → IsFirst table s app node

-- the condition under which an application of this standing is left alone
abbrev pub Rests : Table → StateValue → AppId → Standing → Type 0
Rests table s app Unclaimed = EachEligible table s app (λ _. ⊥)
Rests table s app Lost = EachEligible table s app (λ _. ⊥)
Rests table s app (Stopped n) = Unit {0}
Rests table s app Barred = EachEligible table s app (λ _. ⊥)
Rests table s app (Upheld n) = EachEligible table s app (λ m. ¬ IsEarlier table app m n)

-- A verdict has no candidate exactly when the application is left alone. Its standing and the eligible nodes decide
-- this, and no load does.
abbrev pub RestsInWords : Type 0
RestsInWords = (table : Table) (s : StateValue) (app : AppId)
    → (candidate_of (verdict_of table s app) ≡ None) ↔ Rests table s app (standing_of table s app)

-- An application that was stopped at its holder stays there while that incarnation is live, whatever else holds. So
-- neither a drain nor a later permission starts it elsewhere.
abbrev pub StoppedStays : Type 0
StoppedStays = (table : Table) (s : StateValue) (app : AppId) (o : Origin) → holder_of s app ≡ Some o → IsUp s o
    → ¬ IsStartedAt s (key_of app o) → verdict_of table s app ≡ Halted o.node

-- A drained live incarnation runs no application.
abbrev pub DrainedRunsNothing : Type 0
DrainedRunsNothing = (table : Table) (s : StateValue) (app : AppId) (node : NodeId) (inc : ℕ) → IsLive s.lives node inc
    → IsDrainedAt s node inc → ¬ RunsAt table s app node

-- If no permit of an application stands at a node's live incarnation, the configuration's permission decides. Without
-- it the node isn't eligible; with it, only the list, a drain or a missing start makes it ineligible.
abbrev pub FileCounts : Type 0
FileCounts = (table : Table) (s : StateValue) (app : AppId) (node : NodeId) (inc : ℕ) → IsLive s.lives node inc
    → NoneStands (key_at app node inc) (permissions_of s)
    → (default_permission table app ≡ false → ¬ IsEligible table s app node)
    × (default_permission table app ≡ true → IsSome (group_of table app node) → ¬ IsDrainedAt s node inc
    → IsStartedAt s (key_at app node inc) → IsEligible table s app node)

-- If an application is kept, no eligible node is in an earlier group than its holder.
abbrev pub NoneBefore : Type 0
NoneBefore = (table : Table) (s : StateValue) (app : AppId) (holder m : NodeId) (g h : ℕ)
    → verdict_of table s app ≡ Kept holder → m.0 < node_count table → IsEligible table s app m
    → group_of table app m ≡ Some g → group_of table app holder ≡ Some h → h ≤ g

-- A takeover goes from a node of a later group to one of an earlier group. Groups count from 0, in the list's order.
abbrev pub FromLater : Type 0
FromLater = (table : Table) (s : StateValue) (app : AppId) (n : NodeId) (holder : Origin)
    → verdict_of table s app ≡ Takeover n → holder_of s app ≡ Some holder
    → (g : ℕ) × (h : ℕ) × (group_of table app n ≡ Some g) × (group_of table app holder.node ≡ Some h) × (g < h)

-- each of these is another application of the configuration that runs at the node
abbrev pub RunThere : Table → StateValue → AppId → NodeId → List AppId → Type 0
RunThere table s app node apps = (other : AppId) → IsOneOf other apps
    → (other.0 < app_count table) × ¬ (other ≡ app) × RunsAt table s other node

-- these include every other application of the configuration that runs at the node
abbrev pub HaveAllThere : Table → StateValue → AppId → NodeId → List AppId → Type 0
HaveAllThere table s app node apps = (other : AppId) → other.0 < app_count table → ¬ (other ≡ app) → RunsAt table s other node
    → IsOneOf other apps

-- No eligible node of the candidate's group runs fewer other applications than the candidate: distinct ones that run at
-- the candidate are at most as many as those that run at the other node.
abbrev pub FewestRun : Type 0
FewestRun = (table : Table) (s : StateValue) (app : AppId) (n m : NodeId) (here there : List AppId)
    → candidate_of (verdict_of table s app) ≡ Some n → m.0 < node_count table → IsEligible table s app m
    → group_of table app m ≡ group_of table app n → AreDistinct here → RunThere table s app n here
    → HaveAllThere table s app m there → length here ≤ length there

-- At equal loads the lesser name wins: an eligible node of the candidate's group that runs no more other applications
-- than the candidate doesn't precede it by name. All that run at the other node are at most as many as distinct ones
-- that run at the candidate.
abbrev pub LesserNameWins : Type 0
LesserNameWins = (table : Table) (s : StateValue) (app : AppId) (n m : NodeId) (here there : List AppId)
    → candidate_of (verdict_of table s app) ≡ Some n → m.0 < node_count table → IsEligible table s app m
    → group_of table app m ≡ group_of table app n → AreDistinct here → RunThere table s app n here
    → HaveAllThere table s app m there → length there ≤ length here → n.0 ≤ m.0

-- An application runs only where it is permitted and was started.
abbrev pub OnlyAllowedRun : Type 0
OnlyAllowedRun = (table : Table) (s : StateValue) (app : AppId) (node : NodeId) (inc : ℕ) → IsLive s.lives node inc
    → RunsAt table s app node → IsPermittedAt table s (key_at app node inc) × IsStartedAt s (key_at app node inc)
