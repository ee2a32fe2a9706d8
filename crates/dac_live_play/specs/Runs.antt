-- The report of a script's run.
use Rattle.std.specs.Prelude.{◌≡◌, ◌≢◌, ◌↔◌, ℕ, ◌<◌, List, length}
use Rattle.dac_base.specs.declared.NodeId.{NodeId}
use Rattle.dac_config.specs.Table.{Table, node_count}
use Rattle.dac_script.specs.declared.live_line.LiveLine.{LiveLine}
use Rattle.dac_live.specs.declared.report.LiveReport.{LiveReport}
use Rattle.dac_live.specs.Lines.{CallersHold, AreAnswered}
use Rattle.dac_live.specs.Nodes.{AreNodes, PagesHold, AreTrueOf}
use Rattle.dac_live.specs.Pairs.{LinksHold, SeatsHold}
use Rattle.dac_live.specs.Phases.{FallIntoPhases}
use Rattle.dac_live.specs.Phase.{Phase}
use Rattle.dac_live.specs.Reads.{ReadsHold}
use Rattle.dac_phases.specs.Ends.{EndPhases}
use Rattle.dac_weave.specs.Converging.{IsConverged}
use Rattle.dac_weave.specs.Copies.{NamesCopies}
use Rattle.dac_weave.specs.Phased.{GivesPhases, IsUnwovenUpTo}
use Rattle.dac_weave.specs.Recording.{IsRecorded}
use Rattle.dac_weave.specs.Seats.{HaveSeats}
use Rattle.dac_weave.specs.Woven.{Gives}
use Rattle.dac_weave.specs.declared.weaving.Woven.{Woven}
use Rattle.dac_live.specs.RunFault.TheVariants as run
use Rattle.dac_live_play.specs.declared.fault.PlayFault.{PlayFault}
use Rattle.dac_live_play.specs.declared.fault.PlayFault.TheVariants as fault
use Rattle.dac_live_play.specs.Phases.{parts_of, AsksAs}

-- The report of a run in these phases: a journal and a page of each node. Each journal is a history of its node, and
-- each record belongs to a seat of its node. A link worker's records only hear messages that its shipper shipped, and a
-- shipper's records only ship. Each journal consists of the records of the phases, one phase after another. The pages
-- are those of the whole journals. A caller's seat has exactly its lines as records, with the reported results. A fresh
-- read returned a page of its node's journal that isn't older than the caller's last receipt; a stale one returned an
-- older page or none.
pub record IsReport (table : Table) (phases : List Phase) (report : LiveReport) : Type 0 where
  pub nodes : AreNodes (node_count table) report.closed
  pub histories : AreTrueOf table report.closed
  pub seats : SeatsHold report.closed
  pub links : LinksHold (length phases) report.closed
  pub falls : FallIntoPhases phases report.closed
  pub pages : PagesHold table report.closed report.pages
  pub callers : CallersHold phases report.answers report.closed
  pub lines : AreAnswered phases report.answers
  pub reads : ReadsHold table phases report.answers report.reads report.closed

-- the report of a run whose phases have the callers' lines of the script
pub record IsReportOf (table : Table) (script : List LiveLine) (report : LiveReport) : Type 0 where
  pub phases : List Phase
  pub asks : AsksAs phases (parts_of script)
  pub few : ¬ (4 < node_count table)
  pub is : IsReport table phases report

-- The run of the world has at each node exactly the records of its journal, with their results, so the guarantees of every
-- run hold. Its bounds are the ends of the phases, so that no event precedes one of an earlier phase. Each hearing names
-- the first of equal messages that none before it names, or one again if each is named. Each event has the seat of its
-- record.
pub record IsWoven (table : Table) (phases : List Phase) (report : LiveReport) (run : Woven) : Type 0 where
  pub ends : List (List ℕ)
  pub end : EndPhases phases report.closed ends
  pub gives : Gives table report.closed run.events.items
  pub in_phases : GivesPhases table report.closed run.events.items ends run.bounds.items
  pub copies : NamesCopies table run.events.items
  pub seats : HaveSeats report.closed run.events.items run.seats.items
  pub recorded : IsRecorded table report.closed run.events.items
  pub converges : IsConverged table report.closed run.events.items

-- No run of the world reproduces the journals that a run of the script left, in the order of its phases: every run of the
-- journals up to the end of some phase stops at this record of this node.
pub record IsUnwovenAt (table : Table) (script : List LiveLine) (node : NodeId) (place : ℕ) : Type 0 where
  pub report : LiveReport
  pub reported : IsReportOf table script report
  pub ends : List (List ℕ)
  pub end : EndPhases reported.phases report.closed ends
  pub stops : IsUnwovenUpTo table report.closed ends node place

-- Why a script isn't run to its end. The fault of the run is `TooManyNodes` exactly if there are more than four nodes.
-- A failed allocation isn't a fault of the run, and recording isn't part of it.
abbrev pub IsFaultOf : Table → List LiveLine → PlayFault → Type 0
IsFaultOf table script (fault.Run why) = (why ≢ run.NoMemory) × (why ≡ run.TooManyNodes ↔ 4 < node_count table)
IsFaultOf table script (fault.Unwoven node place) = IsUnwovenAt table script node place
IsFaultOf table script (fault.TooLong phases) = ⊥
IsFaultOf table script fault.Unspelled = ⊥
IsFaultOf table script fault.NoMemory = Unit {0}
