-- A worked case of settling with a drain: the node that runs the application is drained. Both nodes hold the drain, and
-- a round moves the application to the other one.
use Rattle.std.specs.Prelude.{◌≡◌, true, List, [], ◌∷◌, Option, Some, None, IsSome}
use Rattle.dac_base.specs.declared.NodeId.{NodeId}
use Rattle.dac_origins.specs.Dots.{dot}
use Rattle.dac_chains.specs.declared.claims.Claim.{Claim}
use Rattle.dac_chains.specs.declared.claims.How.TheVariants.{Normal}
use Rattle.dac_operations.specs.declared.act.Act.TheVariants.{Drain, Claim as Claims}
use Rattle.dac_operations.specs.Operations.{Operation, operation}
use Rattle.dac_meaning.specs.Meaning.{meaning_of}
use Rattle.dac_config.specs.Table.{app_count}
use Rattle.dac_placement.specs.declared.verdicts.Verdict.TheVariants.{Move}
use Rattle.dac_placement.specs.Placement.{IsDrainedAt, verdict_of}
use Rattle.dac_settle.specs.Settling.{Member, IsReady, Rounds, IsSettled}
use Rattle.dac_settle.specs.Worked.{first_node, second_node, IsEither, the_app, worked_table, first_of, start_of, begun, both_hold}

-- the claim of the first node
abbrev pub first_claim : Claim
first_claim = record { term = 1; origin = first_of first_node; how = Normal; from = None }

abbrev pub claiming : Operation
claiming = operation (dot (first_of first_node) 3) (Claims the_app 1 Normal None)

-- the second node's command that drains the first
abbrev pub draining : Operation
draining = operation (dot (first_of second_node) 3) (Drain first_node 1 true [])

-- the set of both nodes: the application is started at both, the first node claimed it, and the first node is drained
abbrev pub drained_set : List Operation
drained_set = begun (start_of the_app first_node 2 ∷ start_of the_app second_node 2 ∷ claiming ∷ draining ∷ [])

-- Rounds can move an application. Both nodes are ready, the first one holds the application and is drained, and the
-- verdict is to move it. There are as many rounds as applications. After them both nodes still run, and the application
-- is settled at each.
pub record RoundsCanMove : Type 0 where
  pub ready : IsReady (both_hold drained_set)
  pub drained : IsDrainedAt (meaning_of drained_set) first_node 1
  pub moves : verdict_of worked_table (meaning_of drained_set) the_app ≡ Move second_node
  pub later : NodeId → Option Member
  pub rounds : Rounds worked_table (app_count worked_table) (both_hold drained_set) later
  pub run : (n : NodeId) → IsEither n → IsSome (later n)
  pub settled : (n : NodeId) (d : Member) → later n ≡ Some d
      → IsSettled (verdict_of worked_table (meaning_of d.held) the_app)
