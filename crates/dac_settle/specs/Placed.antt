-- Placement by the verdicts of a configuration: the properties that rounds rely on.
use Rattle.std.proofs.Common.{◌≡◌, ℕ, List, Some}
use Rattle.std.specs.Prelude.{unwrap_or, IsSome}
use Rattle.dac_base.specs.declared.NodeId.{NodeId}
use Rattle.dac_base.specs.declared.AppId.{AppId}
use Rattle.dac_origins.specs.declared.dot.Origin.{Origin}
use Rattle.dac_chains.specs.declared.claims.Claim.{Claim}
use Rattle.dac_chains.specs.Lives.{IsLive, live_at}
use Rattle.dac_operations.specs.Operations.{Operation}
use Rattle.dac_meaning.specs.Meaning.{meaning_of, claim_said}
use Rattle.dac_config.specs.Table.{Table}
use Rattle.dac_placement.specs.Placement.{apps_of, verdict_of, candidate_of, EachEligible, IsEligible, IsEarlier, IsUp}
use Rattle.dac_commands.specs.Commands.{next_term}
use Rattle.dac_ticks.specs.Ticks.{claim_of}
use Rattle.dac_settle.specs.Rounds.{Placement}
use Rattle.dac_meaning.specs.StateValue.{StateValue}

-- The node is eligible for the application at this live incarnation, and no eligible node is of an earlier group.
pub record IsFit (t : Table) (s : StateValue) (app : AppId) (o : Origin) : Type 0 where
  pub eligible : IsEligible t s app o.node
  pub earliest : EachEligible t s app (λ m. ¬ IsEarlier t app m o.node)
  pub live : IsUp s o

-- The operation is the next claim of an application that isn't settled in s. Its node is live at its incarnation and
-- eligible, and no eligible node is of an earlier group.
pub record IsGood (t : Table) (s : List Operation) (app : AppId) (o : Operation) : Type 0 where
  pub open_app : IsSome (candidate_of (verdict_of t (meaning_of s) app))
  pub claim : Claim
  pub says : claim_said o.dot o.act ≡ Some (app, claim)
  pub next : claim.term ≡ next_term (meaning_of s) app
  pub fit : IsFit t (meaning_of s) app claim.origin

-- the live incarnation of a node by a set
abbrev pub here : NodeId → List Operation → Origin
here n x = record { node = n; inc = unwrap_or (live_at (meaning_of x).lives n) 0 }

-- placement by the verdicts of a configuration
abbrev pub placed : Table → Placement
placed t = record {
  apps = apps_of t;
  candidate = λ x app. candidate_of (verdict_of t (meaning_of x) app);
  claim = λ n x app. claim_of t (here n x) (meaning_of x) app;
  IsLive = λ x n. (inc : ℕ) × IsLive (meaning_of x).lives n inc;
  IsWell = IsGood t;
}
