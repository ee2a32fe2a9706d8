-- A worked case of settling: two nodes are ready, their application has a start request, and a round settles it.
use Rattle.std.specs.Prelude.{◌≡◌, ◌⊎◌, ℕ, true, false, cond, nat_eq, List, [], ◌∷◌, Option, Some, None, IsSome, Result, Ok}
use Rattle.dac_base.specs.declared.NodeId.{NodeId}
use Rattle.dac_base.specs.declared.AppId.{AppId}
use Rattle.dac_origins.specs.declared.dot.Origin.{Origin}
use Rattle.dac_origins.specs.Dots.{dot}
use Rattle.dac_operations.specs.declared.act.Act.TheVariants.{Up, Start}
use Rattle.dac_operations.specs.Operations.{Operation, operation}
use Rattle.dac_meaning.specs.Meaning.{meaning_of}
use Rattle.dac_shapes.specs.declared.draft.SyncWait.TheVariants.{NoSync}
use Rattle.dac_config.specs.Table.{Table, app_count}
use Rattle.dac_placement.specs.Placement.{verdict_of}
use Rattle.dac_events.specs.declared.WorldEvent.{WorldEvent}
use Rattle.dac_events.specs.declared.What.TheVariants.{Tick, Ship, Deliver}
use Rattle.dac_events.specs.declared.world_fault.WorldFault.{WorldFault}
use Rattle.dac_messages.specs.declared.reply.Reply.{Reply}
use Rattle.dac_messages.specs.declared.reply.Reply.TheVariants.{Ticked, Shipped, Heard}
use Rattle.dac_settle.specs.Settling.{Member, IsReady, Rounds, IsSettled}

-- ---- the case

-- the two nodes
abbrev pub first_node : NodeId
first_node = record { 0 = 0 }

abbrev pub second_node : NodeId
second_node = record { 0 = 1 }

-- one of the two nodes
abbrev pub IsEither : NodeId → Type 0
IsEither n = (n ≡ first_node) ⊎ (n ≡ second_node)

-- the application
abbrev pub the_app : AppId
the_app = record { 0 = 0 }

-- The application can run at three nodes, and waits five seconds for a lost one. In the cases of two nodes the third
-- never boots.
abbrev pub worked_table : Table
worked_table = record {
  nodes = (record { name = 97 ∷ []; mandatory = false; optional = false })
      ∷ (record { name = 98 ∷ []; mandatory = false; optional = false })
      ∷ (record { name = 99 ∷ []; mandatory = false; optional = false }) ∷ [];
  apps = (record { name = 97 ∷ []; timeout = 5000; groups = (0 ∷ 1 ∷ 2 ∷ []) ∷ []; permission = true }) ∷ [];
  sync_wait = NoSync;
}

-- the first incarnation of a node
abbrev pub first_of : NodeId → Origin
first_of n = record { node = n; inc = 1 }

-- the boot of the node
abbrev pub up_of : NodeId → Operation
up_of n = operation (dot (first_of n) 1) Up

-- the start of the application at the node, by the node's own operation of this counter
abbrev pub start_of : AppId → NodeId → ℕ → Operation
start_of app n counter = operation (dot (first_of n) counter) (Start (record { app = app; node = n; inc = 1 }) [])

-- the boots of both nodes, and these starts
abbrev pub begun : List Operation → List Operation
begun starts = up_of first_node ∷ up_of second_node ∷ starts

-- the set of both nodes: both are up, and the application is started at both
abbrev pub worked_set : List Operation
worked_set = begun (start_of the_app first_node 2 ∷ start_of the_app second_node 2 ∷ [])

-- a node that holds a set in its first incarnation, without notes
abbrev pub member_with : List Operation → Member
member_with held = record { inc = 1; held = held; notes = [] }

-- both run with this set, and no other node runs
abbrev pub both_hold : List Operation → NodeId → Option Member
both_hold held n = cond (nat_eq n.0 0) (Some (member_with held)) (cond (nat_eq n.0 1) (Some (member_with held)) None)

abbrev pub worked_nodes : NodeId → Option Member
worked_nodes = both_hold worked_set

-- ---- a round of the model world

-- five seconds after their boots, and before any ship, both tick, both ship, and each hears the other
abbrev pub both_go_round : List WorldEvent
both_go_round =
    (record { node = first_node; what = Tick 5000 }) ∷ (record { node = second_node; what = Tick 5000 })
    ∷ (record { node = first_node; what = Ship second_node }) ∷ (record { node = second_node; what = Ship first_node })
    ∷ (record { node = second_node; what = Deliver 1 }) ∷ (record { node = first_node; what = Deliver 2 }) ∷ []

-- the results after the first tick: another tick, two ships, and two messages heard
abbrev pub AreLater : List (Result Reply WorldFault) → Type 0
AreLater (Ok (Ticked os ps) ∷ Ok (Shipped m) ∷ Ok (Shipped k) ∷ Ok (Heard f) ∷ Ok (Heard g) ∷ []) = Unit {0}
AreLater _ = ⊥

-- ---- the result

-- Rounds exist. The nodes are ready, the application isn't settled, and there are as many rounds as applications. After
-- them both nodes still run, and the application is settled at each.
pub record RoundsCanBe : Type 0 where
  pub ready : IsReady worked_nodes
  pub unsettled : ¬ IsSettled (verdict_of worked_table (meaning_of worked_set) the_app)
  pub later : NodeId → Option Member
  pub rounds : Rounds worked_table (app_count worked_table) worked_nodes later
  pub run : (n : NodeId) → IsEither n → IsSome (later n)
  pub settled : (n : NodeId) (d : Member) → later n ≡ Some d
      → IsSettled (verdict_of worked_table (meaning_of d.held) the_app)
