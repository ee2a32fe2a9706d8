-- A worked run of the model world: a command drains the node that holds an application. Both nodes learn of it, and a
-- round moves the application.
use Rattle.std.specs.Prelude.{◌≡◌, ℕ, true, List, [], ◌∷◌, ◌++◌, Some, None, IsSome, Result, Ok}
use Rattle.dac_base.specs.declared.NodeId.{NodeId}
use Rattle.dac_chains.specs.declared.claims.How.TheVariants.{Normal}
use Rattle.dac_operations.specs.declared.act.Act.TheVariants.{Claim as Claims}
use Rattle.dac_operations.specs.Operations.{Operation}
use Rattle.dac_meaning.specs.StateValue.{StateValue}
use Rattle.dac_meaning.specs.Meaning.{meaning_of}
use Rattle.dac_config.specs.Table.{app_count}
use Rattle.dac_placement.specs.declared.verdicts.Verdict.TheVariants.{Move}
use Rattle.dac_placement.specs.Placement.{IsDrainedAt, holder_of, verdict_of}
use Rattle.dac_events.specs.declared.Command.TheVariants.{Start, Drain}
use Rattle.dac_events.specs.declared.WorldEvent.{WorldEvent}
use Rattle.dac_events.specs.declared.What.TheVariants.{Boot, Command, Tick, Hand}
use Rattle.dac_events.specs.declared.world_fault.WorldFault.{WorldFault}
use Rattle.dac_messages.specs.declared.reply.Reply.{Reply}
use Rattle.dac_messages.specs.declared.reply.Reply.TheVariants.{Ticked}
use Rattle.dac_model_world.specs.WorldValue.{WorldValue}
use Rattle.dac_model_world.specs.ModelWorld.{AnsweredAs, RanAs, start, world_after}
use Rattle.dac_model_world.specs.Convergence.{RunsWith}
use Rattle.dac_model_world.specs.SetWorld.{NodeSet, no_sets, set_run}
use Rattle.dac_settle.specs.Settling.{IsSettled}
use Rattle.dac_settle.specs.WorldRounds.{IsReadyWorld, AreRounds}
use Rattle.dac_settle.specs.Worked.{first_node, second_node, IsEither, the_app, worked_table, first_of, both_go_round, AreLater}

-- ---- the case

-- The first node boots, requests a start and claims the application. The second boots, requests a start too, and is
-- handed the first one's boot. Its command drains the first. Then each is handed the operations that it lacks, among
-- them the drain and the claim.
abbrev pub drains_first : List WorldEvent
drains_first =
    (record { node = first_node; what = Boot 0 }) ∷ (record { node = first_node; what = Command (Start the_app first_node) }) ∷ (record { node = first_node; what = Tick 0 })
    ∷ (record { node = second_node; what = Boot 0 }) ∷ (record { node = second_node; what = Command (Start the_app second_node) }) ∷ (record { node = second_node; what = Hand 1 })
    ∷ (record { node = second_node; what = Command (Drain first_node true) }) ∷ (record { node = second_node; what = Hand 2 })
    ∷ (record { node = first_node; what = Hand 4 }) ∷ (record { node = first_node; what = Hand 5 }) ∷ (record { node = first_node; what = Hand 6 })
    ∷ (record { node = second_node; what = Hand 3 }) ∷ []

-- P holds of the state of each node that runs after these events and the round, with these results
abbrev pub InTheEnd : List (Result Reply WorldFault) → (StateValue → Type 0) → Type 0
InTheEnd answers P = (v : WorldValue) → RanAs worked_table (drains_first ++ both_go_round) answers v
    → (n : ℕ) (state : StateValue) → RunsWith v n state → P state

-- These are the results of the events from the start, in the model world. After them the world is ready, and two nodes
-- run. By the set of each of them the first node is drained, and the verdict is to move the application to the second.
-- The later events with their results are as many rounds as there are applications, in which the first node claims
-- nothing and the second claims the application. At the end both nodes still run, and at each running node the
-- application is settled and the second node holds it.
pub record RunsCanMove : Type 0 where
  pub replies : List (Result Reply WorldFault)
  pub answered : AnsweredAs worked_table (start worked_table) drains_first replies
  pub ready : IsReadyWorld (world_after worked_table (start worked_table) drains_first replies) (set_run no_sets drains_first replies)
  pub held : NodeId → NodeSet
  pub holds : (n : NodeId) → IsEither n → (set_run no_sets drains_first replies).node n ≡ Some (held n)
  pub drained : (n : NodeId) → IsEither n → IsDrainedAt (meaning_of (held n).operations) first_node 1
  pub moves : (n : NodeId) → IsEither n
      → verdict_of worked_table (meaning_of (held n).operations) the_app ≡ Move second_node
  pub claim : Operation
  pub takes : claim.act ≡ Claims the_app 2 Normal None
  pub later : List (Result Reply WorldFault)
  pub kinds : AreLater (Ok (Ticked (claim ∷ []) []) ∷ later)
  pub rounds : AreRounds worked_table (app_count worked_table) (world_after worked_table (start worked_table) drains_first replies)
      (set_run no_sets drains_first replies) both_go_round (Ok (Ticked [] []) ∷ Ok (Ticked (claim ∷ []) []) ∷ later)
  pub run : (n : NodeId) → IsEither n
      → IsSome ((set_run no_sets (drains_first ++ both_go_round) (replies ++ Ok (Ticked [] []) ∷ Ok (Ticked (claim ∷ []) []) ∷ later)).node n)
  pub settled : InTheEnd (replies ++ Ok (Ticked [] []) ∷ Ok (Ticked (claim ∷ []) []) ∷ later)
      (λ state. IsSettled (verdict_of worked_table state the_app))
  pub moved : InTheEnd (replies ++ Ok (Ticked [] []) ∷ Ok (Ticked (claim ∷ []) []) ∷ later)
      (λ state. holder_of state the_app ≡ Some (first_of second_node))
