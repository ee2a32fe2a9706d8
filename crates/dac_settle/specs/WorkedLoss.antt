-- A worked run of the model world: a claim is lost, and two nodes note it. After its wait a round of both fails over.
use Rattle.std.specs.Prelude.{◌≡◌, ℕ, List, [], ◌∷◌, ◌++◌, Some, None, IsSome, Result, Ok}
use Rattle.dac_base.specs.declared.NodeId.{NodeId}
use Rattle.dac_chains.specs.declared.claims.Claim.{Claim}
use Rattle.dac_chains.specs.declared.claims.How.TheVariants.{Normal, Failover as FailedOver}
use Rattle.dac_operations.specs.declared.act.Act.TheVariants.{Claim as Claims}
use Rattle.dac_operations.specs.Operations.{Operation}
use Rattle.dac_meaning.specs.StateValue.{StateValue}
use Rattle.dac_meaning.specs.Meaning.{meaning_of}
use Rattle.dac_config.specs.Table.{app_count}
use Rattle.dac_placement.specs.Placement.{verdict_of}
use Rattle.dac_decide.specs.FailoverWait.{IsLost}
use Rattle.dac_events.specs.declared.Command.TheVariants.{Start}
use Rattle.dac_events.specs.declared.WorldEvent.{WorldEvent}
use Rattle.dac_events.specs.declared.What.TheVariants.{Boot, Crash, Command, Tick, Hand}
use Rattle.dac_messages.specs.declared.reply.Reply.{Reply}
use Rattle.dac_messages.specs.declared.reply.Reply.TheVariants.{Ticked}
use Rattle.dac_events.specs.declared.world_fault.WorldFault.{WorldFault}
use Rattle.dac_model_world.specs.WorldValue.{WorldValue}
use Rattle.dac_model_world.specs.ModelWorld.{AnsweredAs, RanAs, start, world_after}
use Rattle.dac_model_world.specs.Convergence.{RunsWith}
use Rattle.dac_settle.specs.Settling.{IsSettled}
use Rattle.dac_model_world.specs.SetWorld.{NodeSet, no_sets, set_run}
use Rattle.dac_settle.specs.WorldRounds.{IsReadyWorld, AreRounds}
use Rattle.dac_settle.specs.Worked.{first_node, second_node, IsEither, the_app, worked_table, first_of, both_go_round, AreLater}

-- ---- the case

-- the node that is lost
abbrev pub lost_node : NodeId
lost_node = record { 0 = 2 }

-- the claim of the third node
abbrev pub lost_claim : Claim
lost_claim = record { term = 1; origin = first_of lost_node; how = Normal; from = None }

-- The third node boots, claims the application and crashes. Each of the two others boots and requests a start. It is
-- handed the claim, and the operations of the other one, and notes that the claim is lost
abbrev pub losing : List WorldEvent
losing =
    (record { node = lost_node; what = Boot 0 }) ∷ (record { node = lost_node; what = Command (Start the_app lost_node) }) ∷ (record { node = lost_node; what = Tick 0 }) ∷ (record { node = lost_node; what = Crash })
    ∷ (record { node = first_node; what = Boot 0 }) ∷ (record { node = first_node; what = Command (Start the_app first_node) })
    ∷ (record { node = second_node; what = Boot 0 }) ∷ (record { node = second_node; what = Command (Start the_app second_node) })
    ∷ (record { node = first_node; what = Hand 3 }) ∷ (record { node = first_node; what = Hand 6 }) ∷ (record { node = first_node; what = Hand 7 })
    ∷ (record { node = second_node; what = Hand 3 }) ∷ (record { node = second_node; what = Hand 4 }) ∷ (record { node = second_node; what = Hand 5 })
    ∷ (record { node = first_node; what = Tick 0 }) ∷ (record { node = second_node; what = Tick 0 }) ∷ []

-- These are the results of the events from the start, in the model world. After them the world is ready, two nodes run,
-- and the claim is lost by the set of each. The later events with their results are as many rounds as there are
-- applications. In them the first node claims the application from the lost one, as a failover. At the end both nodes
-- still run, and the application is settled at each running node.
pub record RunsCanFailOver : Type 0 where
  pub replies : List (Result Reply WorldFault)
  pub answered : AnsweredAs worked_table (start worked_table) losing replies
  pub ready : IsReadyWorld (world_after worked_table (start worked_table) losing replies) (set_run no_sets losing replies)
  pub held : NodeId → NodeSet
  pub holds : (n : NodeId) → IsEither n → (set_run no_sets losing replies).node n ≡ Some (held n)
  pub lost : (n : NodeId) → IsEither n → IsLost (meaning_of (held n).operations) the_app lost_claim
  pub claim : Operation
  pub fails_over : claim.act ≡ Claims the_app 2 FailedOver (Some lost_node)
  pub later : List (Result Reply WorldFault)
  pub kinds : AreLater later
  pub rounds : AreRounds worked_table (app_count worked_table) (world_after worked_table (start worked_table) losing replies)
      (set_run no_sets losing replies) both_go_round (Ok (Ticked (claim ∷ []) []) ∷ later)
  pub run : (n : NodeId) → IsEither n
      → IsSome ((set_run no_sets (losing ++ both_go_round) (replies ++ Ok (Ticked (claim ∷ []) []) ∷ later)).node n)
  pub settled : (v : WorldValue)
      → RanAs worked_table (losing ++ both_go_round) (replies ++ Ok (Ticked (claim ∷ []) []) ∷ later) v
      → (n : ℕ) (state : StateValue) → RunsWith v n state → IsSettled (verdict_of worked_table state the_app)
