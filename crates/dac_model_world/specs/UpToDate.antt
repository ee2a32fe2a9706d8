-- The meaning of a ship that is refused as up to date.
use Rattle.std.specs.Prelude.{◌≡◌, List, [], ◌∷◌, Some, Result, Err}
use Rattle.std.specs.FinMap as map
use Rattle.dac_base.specs.declared.NodeId.{NodeId}
use Rattle.dac_chains.specs.declared.lives.Life.{Life}
use Rattle.dac_meaning.specs.Meaning.{meaning_of, AreOperationsOf}
use Rattle.dac_events.specs.declared.WorldEvent.{WorldEvent}
use Rattle.dac_events.specs.declared.What.TheVariants.{Ship as Ships}
use Rattle.dac_messages.specs.declared.reply.Reply.{Reply}
use Rattle.dac_events.specs.declared.refusal.Refusal.TheVariants.{UpToDate}
use Rattle.dac_events.specs.declared.world_fault.WorldFault.{WorldFault}
use Rattle.dac_events.specs.declared.world_fault.WorldFault.TheVariants.{Refused}
use Rattle.dac_model_world.specs.SetWorld.{SetWorld, NodeSet, set_step}

-- The sender runs and knows a life of the receiver. If the receiver runs as the incarnation of that life, it has all of
-- the sender's set.
pub record HasAll (w : SetWorld) (from to : NodeId) : Type 0 where
  pub mine : NodeSet
  pub on : w.node from ≡ Some mine
  pub life : Life
  pub known : map.get (meaning_of mine.operations).lives to ≡ Some life
  pub has : (theirs : NodeSet) → w.node to ≡ Some theirs → theirs.inc ≡ life.inc
      → AreOperationsOf mine.operations theirs.operations

-- a ship refused as up to date is to a node that has all
abbrev pub TellsUpToDate : SetWorld → WorldEvent → Result Reply WorldFault → Type 0
TellsUpToDate w e a = a ≡ Err (Refused UpToDate) → (to : NodeId) → e.what ≡ Ships to → HasAll w e.node to

-- each of these ships that is refused as up to date is to a node that has all
abbrev pub TellUpToDate : SetWorld → List WorldEvent → List (Result Reply WorldFault) → Type 0
TellUpToDate w [] answers = Unit {0}
TellUpToDate w (e ∷ es) [] = Unit {0}
TellUpToDate w (e ∷ es) (a ∷ answers) = TellsUpToDate w e a × TellUpToDate (set_step w e.node e.what a) es answers
