-- From the results of the run and the weave to the result of the script.
use Rattle.std.proofs.Common.{◌≡◌, ℕ, suc, ◌<◌, ◌≤◌, List, [], ◌∷◌, Ok, Err, true≢false, Bor, length, map, refl, sym, ap, subst, ◌∙◌, arith}
use Rattle.dac_live_play.proofs.Common.{Table, LiveLine, PlayFault, parts_of, lines_in, AsksAs, IsReportOf, IsFaultOf}
use Rattle.std.proofs.lemmas.List.Splits.{length-slice_split}
use Rattle.std.specs.Prelude.{All}
use Rattle.std.specs.Result.{is_ok}
use Rattle.dac_base.specs.declared.limits.TheConstants.{MAX_NODES}
use Rattle.dac_live.specs.Nodes.{AreNodes}
use Rattle.dac_live.specs.Phase.{Phase}
use Rattle.dac_live.specs.declared.report.LiveReport.{LiveReport}
use Rattle.dac_sites.specs.Journals.{JournalValue}
use Rattle.dac_sites.specs.Record.{Record}
use Rattle.dac_phases.specs.Ends.{RiseTo, HoldBetween, no_ends, lengths_of, EndPhases, HasCallers}
use Rattle.dac_live.specs.Lines.{HasLines}
use Rattle.dac_weave.specs.Converging.{IsConverged}
use Rattle.dac_weave.specs.Copies.{NamesCopies}
use Rattle.dac_weave.specs.Cut.{RiseTo as Rises, AreEnds}
use Rattle.dac_weave.specs.Phased.{GivesPhases, IsPhaseFault}
use Rattle.dac_weave.specs.Recording.{IsRecorded}
use Rattle.dac_weave.specs.Seats.{HaveSeats}
use Rattle.dac_weave.specs.Woven.{Gives}
use Rattle.dac_weave.specs.declared.weaving.Woven.{Woven}
use Rattle.dac_weave.specs.declared.fault.WeaveFault.{WeaveFault}
use Rattle.dac_weave.specs.declared.fault.WeaveFault.TheVariants as weave
use Rattle.dac_live_play.specs.Faults.{unwoven_fault_of}
use Rattle.dac_live_play.specs.Phases.{ends_phase}
use Rattle.dac_live_play.specs.Runs.{IsWoven}
use Rattle.dac_live_play.proofs.Asking.{as_many}

-- Ok isn't an error
pub no_error : {T E : Type 0} (x : T) (e : E) → Ok x ≡ Err e → ⊥
no_error x e same = true≢false (ap is_ok same)

-- borrowed phases have the callers' lines of the script, whose parts are borrowed, too
pub asks_script : (script : List LiveLine) (given phases : List Phase) (lent parts : List (Bor (List LiveLine))) → given ≡ phases → AsksAs phases (map (λ part. part.now) lent) → lent ≡ parts → map (λ part. part.now) parts ≡ parts_of script → AsksAs given (parts_of script)
asks_script script given phases lent parts given_is asks lent_is parts_are =
    ap (map (λ (p : Phase). p.lines.items)) given_is ∙ asks ∙ ap (λ (l : List (Bor (List LiveLine))). map lines_in (map (λ part. part.now) l)) lent_is ∙ ap (map lines_in) parts_are

-- a fault of the weave is a fault of the script
pub weave_fails : (table : Table) (script : List LiveLine) (report : LiveReport) (fault : WeaveFault) (why : PlayFault) (reported : IsReportOf table script report) (ends : List (List ℕ)) → EndPhases reported.phases report.closed ends → IsPhaseFault table report.closed ends fault → why ≡ unwoven_fault_of fault → IsFaultOf table script why
weave_fails table script report (weave.Unwoven node place) why reported ends end stops is =
    subst (IsFaultOf table script) (sym is) (record { report = report; reported = reported; ends = ends; end = end; stops = stops })
weave_fails table script report weave.NoMemory why reported ends end stops is = subst (IsFaultOf table script) (sym is) tt

-- as many journals as nodes, of which there are few
pub few_journals : (nodes : ℕ) (journals closed : List JournalValue) → journals ≡ closed → AreNodes nodes closed → (4 < nodes → ⊥) → length journals ≤ MAX_NODES
few_journals nodes journals closed is all few = omega (arith, ap (λ (js : List JournalValue). length js) is, all.many, few)

-- ---- the ends of phases
rises : (last : List ℕ) (rows : List (List ℕ)) (before : List ℕ) → RiseTo last rows before → Rises last rows before
rises last [] before rise = rise
rises last (row ∷ rows) before rise = (rise.0, rises last rows row rise.1)

rows_hold : (journals : List (List Record)) (phases : List Phase) (rows : List (List ℕ)) (before : List ℕ) → HoldBetween journals phases rows before → length rows ≡ length phases
rows_hold journals [] [] before hold = refl
rows_hold journals [] (row ∷ rows) before hold = absurd hold
rows_hold journals (phase ∷ phases) [] before hold = absurd hold
rows_hold journals (phase ∷ phases) (row ∷ rows) before hold = ap suc (rows_hold journals phases rows row hold.1)

-- the ends of the script's phases are ends of phases in the journals
pub are_ends : (script : List LiveLine) (phases : List Phase) (closed : List JournalValue) (rows : List (List ℕ)) → AsksAs phases (parts_of script) → EndPhases phases closed rows → AreEnds closed rows
are_ends script phases closed rows asks end =
    let many : length rows ≡ length phases = rows_hold (map (λ (j : JournalValue). j.records) closed) phases rows (no_ends closed) end.hold in
    record { some = omega (arith, many, as_many phases (parts_of script) asks, length-slice_split ends_phase script); rise = rises (lengths_of closed) rows (no_ends closed) end.rise }

-- ---- the run of the journals
pub record RunsIn (table : Table) (phases : List Phase) (closed : List JournalValue) (ends : List (List ℕ)) (run : Woven) : Type 0 where
  pub end : EndPhases phases closed ends
  pub gives : Gives table closed run.events.items
  pub in_phases : GivesPhases table closed run.events.items ends run.bounds.items
  pub copies : NamesCopies table run.events.items
  pub seats : HaveSeats closed run.events.items run.seats.items
  pub recorded : IsRecorded table closed run.events.items
  pub converges : IsConverged table closed run.events.items

pub woven : (table : Table) (phases : List Phase) (report : LiveReport) (journals : List JournalValue) (ends : List (List ℕ)) (run : Woven) → journals ≡ report.closed → RunsIn table phases journals ends run → IsWoven table phases report run
woven table phases report journals ends run is runs =
    let own = subst (λ (closed : List JournalValue). RunsIn table phases closed ends run) is runs in
    record { ends = ends; end = own.end; gives = own.gives; in_phases = own.in_phases; copies = own.copies; seats = own.seats; recorded = own.recorded; converges = own.converges }

-- the callers of lines are from 1 to 4
pub have_callers : (nodes : ℕ) (phases : List Phase) → All (HasLines nodes) phases → All HasCallers phases
have_callers nodes phases all = λ k d lt n e less. let line = all k d lt n e less in (line.1, line.2)
