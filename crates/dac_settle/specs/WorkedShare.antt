-- A worked run of the model world with a share: one node knows the other's present incarnation, each ships its whole
-- set to the other, and both end with the union.
use Rattle.std.specs.Prelude.{◌≡◌, List, [], ◌∷◌, ◌++◌, Some, Result}
use Rattle.dac_base.specs.declared.NodeId.{NodeId}
use Rattle.dac_chains.specs.Lives.{IsLive}
use Rattle.dac_meaning.specs.Meaning.{meaning_of}
use Rattle.dac_events.specs.declared.WorldEvent.{WorldEvent}
use Rattle.dac_events.specs.declared.What.TheVariants.{Boot, Ship, Deliver, Hand}
use Rattle.dac_events.specs.declared.world_fault.WorldFault.{WorldFault}
use Rattle.dac_messages.specs.declared.reply.Reply.{Reply}
use Rattle.dac_model_world.specs.ModelWorld.{AnsweredAs, start}
use Rattle.dac_model_world.specs.SetWorld.{NodeSet, no_sets, set_run}
use Rattle.dac_model_world.specs.Fits.{RunsIn}
use Rattle.dac_model_world.specs.Shares.{KnowPresent, IsShare, HaveUnion}
use Rattle.dac_settle.specs.Worked.{first_node, second_node, IsEither, worked_table}

-- ---- the case

-- both boot, and the second is handed the first one's boot
abbrev pub coming : List WorldEvent
coming = (record { node = first_node; what = Boot 0 }) ∷ (record { node = second_node; what = Boot 0 }) ∷ (record { node = second_node; what = Hand 1 }) ∷ []

-- both ship, and each hears the other
abbrev pub telling : List WorldEvent
telling =
    (record { node = first_node; what = Ship second_node }) ∷ (record { node = second_node; what = Ship first_node })
    ∷ (record { node = second_node; what = Deliver 1 }) ∷ (record { node = first_node; what = Deliver 2 }) ∷ []

-- These are the results of the events from the start, in the model world. After the first part both nodes run, and by
-- the set of the second one the first is live. Each knows the other's present incarnation, or nothing of its life. The
-- second part is a share, and leaves the union to both.
pub record SharesCanBe : Type 0 where
  pub replies : List (Result Reply WorldFault)
  pub answers : List (Result Reply WorldFault)
  pub answered : AnsweredAs worked_table (start worked_table) (coming ++ telling) (replies ++ answers)
  pub run : (n : NodeId) → IsEither n → RunsIn (set_run no_sets coming replies) n
  pub held : NodeSet
  pub holds : (set_run no_sets coming replies).node second_node ≡ Some held
  pub knows : IsLive (meaning_of held.operations).lives first_node 1
  pub present : KnowPresent (set_run no_sets coming replies)
  pub share : IsShare (set_run no_sets coming replies) telling answers
  pub united : HaveUnion (set_run no_sets coming replies) (set_run (set_run no_sets coming replies) telling answers)
