-- Convergence: the properties of every run, under one name.
use Rattle.std.specs.Prelude.{List, Result}
use Rattle.dac_config.specs.Table.{Table}
use Rattle.dac_events.specs.declared.WorldEvent.{WorldEvent}
use Rattle.dac_lattice.specs.Lattices.{IsLattice}
use Rattle.dac_meaning.specs.StateValue.{IsState, IsBelow, join}
use Rattle.dac_messages.specs.declared.reply.Reply.{Reply}
use Rattle.dac_events.specs.declared.world_fault.WorldFault.{WorldFault}
use Rattle.dac_model_world.specs.WorldValue.{WorldValue}
use Rattle.dac_model_world.specs.SetWorld.{set_run, no_sets}
use Rattle.dac_model_world.specs.Convergence.{EachIsMeaning, Agrees, DistinctDots, HoldsSets, ListsAll, CarryMeanings}
use Rattle.dac_model_world.specs.Uniting.{AllUnite}
use Rattle.dac_model_world.specs.News.{AnswersNews}
use Rattle.dac_model_world.specs.Fits.{HearsAllThatFits, no_deltas}
use Rattle.dac_model_world.specs.Addressed.{AreAddressed}
use Rattle.dac_model_world.specs.UpToDate.{TellUpToDate}
use Rattle.dac_model_world.specs.Shares.{SharesUnite}
use Rattle.dac_model_world.specs.Issuing.{TellIssued}
use Rattle.dac_model_world.specs.Causality.{HandsNothing, IsCausal}
use Rattle.dac_model_world.specs.Records.{HaveHistories}
use Rattle.dac_model_world.specs.Gates.{StayOpen}

-- the properties of the program's world after these events with these results
pub record Converges (t : Table) (events : List WorldEvent) (answers : List (Result Reply WorldFault))
    (v : WorldValue) : Type 0 where
  -- each running controller's state is the meaning of the issued operations whose dots it has heard
  pub headline : EachIsMeaning v
  -- therefore controllers that have heard the same set have equal states and bytes, and name the same holder and the
  -- same next candidate
  pub agree : Agrees v
  -- merging any two states gives their least upper bound
  pub merging : IsLattice IsState IsBelow join
  -- no two issued operations have one dot
  pub distinct : DistinctDots v.operations
  -- each controller holds the set that the world of sets has at its node, as the incarnation that holds the set
  pub sets : HoldsSets v (set_run no_sets events answers)
  -- the issued operations are those of the world of sets, which has one copy for each message
  pub listed : ListsAll v (set_run no_sets events answers)
  -- A node issues operations of its present incarnation, with the counters 1, 2, 3 and so on. A boot issues one Up, the
  -- first operation of an incarnation that is later than all before of its node.
  pub issued : TellIssued no_sets events answers
  -- each shipped message carries the meaning of a set of issued operations
  pub bodies : CarryMeanings v
  -- Each ship sends a copy of the sender's whole set, and each delivery unites the receiver's set with the whole copy,
  -- whatever part of it the message carries.
  pub unite : AllUnite no_sets events answers
  -- each hear reports whether it brought a dot that the controller hadn't heard
  pub news : AnswersNews no_sets events answers
  -- A running controller hears each message shipped to it, and each operation handed to it, unless an allocation fails
  -- or its delta numbers are used up.
  pub heard : HearsAllThatFits no_sets no_deltas events answers
  -- each accepted ship results in a message to the node that it names
  pub addressed : AreAddressed events answers
  -- A ship is refused as up to date only if the receiver has all of the sender's set, while it runs as the incarnation
  -- that the sender knows.
  pub up_to_date : TellUpToDate no_sets events answers
  -- Therefore a share, in which each running node ships all that it has to each other one, leaves the union of their
  -- sets to all running nodes, if each knew the others' present incarnations, or nothing of their lives.
  pub shares : SharesUnite events answers
  -- if no single operation is handed, each controller has heard all that is causally before what it has heard, and
  -- exactly the maximal writes stand
  pub causal : HandsNothing events answers → IsCausal v (set_run no_sets events answers)
  -- After a tick finds a controller's start gate open, no tick of it is held back or gives up until it goes off.
  pub gates : StayOpen events answers
  -- the events at each controller, with their results, are a history of it, from before its first boot to its value
  -- after the run
  pub histories : HaveHistories t events answers v
