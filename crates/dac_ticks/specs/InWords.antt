-- The sweep of a tick in words: it claims exactly the applications whose candidate is its own node and whose verdict is
-- due, each in the state that the earlier claims left.
use Rattle.std.specs.Prelude.{◌≡◌, ◌⊎◌, ℕ, List, [], ◌∷◌, Option, None, Some, ◌+◌, ◌≤◌}
use Rattle.dac_base.specs.declared.NodeId.{NodeId}
use Rattle.dac_base.specs.declared.AppId.{AppId}
use Rattle.dac_origins.specs.declared.dot.Origin.{Origin}
use Rattle.dac_origins.specs.Dots.{IsNext}
use Rattle.dac_chains.specs.declared.claims.How.{How}
use Rattle.dac_chains.specs.declared.claims.How.TheVariants.{Normal, Failover as FailedOver, Takeover as TakenOver}
use Rattle.dac_operations.specs.Operations.{Operation}
use Rattle.dac_meaning.specs.StateValue.{StateValue, join}
use Rattle.dac_meaning.specs.Meaning.{meaning_of}
use Rattle.dac_config.specs.Table.{Table, app_count}
use Rattle.dac_placement.specs.declared.verdicts.Verdict.{Verdict}
use Rattle.dac_placement.specs.declared.verdicts.Verdict.TheVariants.{Start, Failover, Move, Takeover}
use Rattle.dac_placement.specs.Placement.{IsVerdict, candidate_of, apps_of}
use Rattle.dac_decide.specs.FailoverWait.{Note, IsDueBy, IsHeldAt, waits_of}
use Rattle.dac_commands.specs.Written.{HasLastTerm, IsNextClaim}
use Rattle.dac_base.specs.declared.limits.TheConstants.{MAX_COUNTER}
use Rattle.dac_commands.specs.Commands.{greatest_counter}
use Rattle.dac_ticks.specs.Ticks.{sweep_of}

-- the application's verdict names this node, and is due
pub record IsMine (t : Table) (own : Origin) (notes : List Note) (now : ℕ) (s : StateValue) (app : AppId)
    (verdict : Verdict) : Type 0 where
  pub verdict_is : IsVerdict t s app verdict
  pub candidate : candidate_of verdict ≡ Some own.node
  pub due : IsDueBy t notes s app now verdict

-- the application's verdict doesn't name this node, or isn't due
pub record IsNotMine (t : Table) (own : Origin) (notes : List Note) (now : ℕ) (s : StateValue)
    (app : AppId) : Type 0 where
  pub verdict : Verdict
  pub verdict_is : IsVerdict t s app verdict
  pub left : candidate_of verdict ≡ Some own.node → ¬ IsDueBy t notes s app now verdict

-- A failover or takeover is claimed as such, from the node that held the application. A start or a move is claimed as
-- normal.
abbrev pub ComesBy : StateValue → AppId → Verdict → How → Option NodeId → Type 0
ComesBy s app (Failover n) how from =
    (how ≡ FailedOver) × (holder : NodeId) × (IsHeldAt s app holder × (from ≡ Some holder))
ComesBy s app (Takeover n) how from =
    (how ≡ TakenOver) × (holder : NodeId) × (IsHeldAt s app holder × (from ≡ Some holder))
ComesBy s app (Start n) how from = (how ≡ Normal) × (from ≡ None)
ComesBy s app (Move n) how from = (how ≡ Normal) × (from ≡ None)
ComesBy s app _ how from = ⊥

-- the operation claims the application by its verdict, under the next term and the incarnation's next dot
pub record IsClaimOf (own : Origin) (s : StateValue) (app : AppId) (verdict : Verdict) (o : Operation) : Type 0 where
  pub dot : IsNext s.known own o.dot
  pub how : How
  pub from : Option NodeId
  pub comes : ComesBy s app verdict how from
  pub claims : IsNextClaim s app how from o.act

-- the operations and passed applications of the rest of a sweep, which begins in some state
abbrev pub Onward : Type 1
Onward = StateValue → List Operation → List AppId → Type 0

module _ (t : Table) (own : Origin) (notes : List Note) (now : ℕ) (s : StateValue) (app : AppId) (onward : Onward) where
  -- The application isn't the node's to claim, and the sweep leaves it alone.
  abbrev pub IsLeft : List Operation → List AppId → Type 0
  IsLeft ops passed = IsNotMine t own notes now s app × onward s ops passed

  -- The application is the node's to claim, and the next operation claims it. The sweep continues in the state with the
  -- claim.
  abbrev pub IsClaimed : List Operation → List AppId → Type 0
  IsClaimed ops passed =
      (verdict : Verdict) × (o : Operation) × (rest : List Operation)
      × ((ops ≡ o ∷ rest) × (IsMine t own notes now s app verdict
      × (IsClaimOf own s app verdict o × onward (join s (meaning_of (o ∷ []))) rest passed)))

  -- The application is the node's to claim, but its terms are used up, so that the sweep passes it over.
  abbrev pub IsPassed : List Operation → List AppId → Type 0
  IsPassed ops passed =
      (verdict : Verdict) × (rest : List AppId)
      × ((passed ≡ app ∷ rest) × (IsMine t own notes now s app verdict
      × (HasLastTerm s app × onward s ops rest)))

-- Each of these applications in order is left, claimed or passed over.
abbrev pub IsSweep : Table → Origin → List Note → ℕ → StateValue → List AppId → List Operation → List AppId → Type 0
IsSweep t own notes now s [] ops passed = (ops ≡ []) × (passed ≡ [])
IsSweep t own notes now s (app ∷ apps) ops passed =
    let onward : Onward = λ later issued passed. IsSweep t own notes now later apps issued passed in
    IsLeft t own notes now s app onward ops passed
    ⊎ (IsClaimed t own notes now s app onward ops passed ⊎ IsPassed t own notes now s app onward ops passed)

-- the incarnation has a counter for each application
abbrev pub HasRoom : Table → Origin → StateValue → Type 0
HasRoom t own s = greatest_counter own s.known + app_count t ≤ MAX_COUNTER

-- A sweep issues and passes over what the words say, if there is a counter for each application.
abbrev pub SweepsInWords : Type 0
SweepsInWords = (t : Table) (own : Origin) (notes : List Note) (now : ℕ) (s : StateValue) → HasRoom t own s
    → let sweep = sweep_of t own (waits_of t notes) now s in IsSweep t own notes now s (apps_of t) sweep.ops sweep.passed
