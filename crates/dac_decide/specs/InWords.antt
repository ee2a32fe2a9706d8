-- The computed waits and start gate agree with the definitions in words, for every list of notes and every state, even
-- one that no operation produced.
use Rattle.std.specs.Prelude.{◌≡◌, ◌↔◌, ℕ, ◌+◌, ◌<◌, ◌≤◌, true, List, [], ◌∷◌, ◌++◌, length, Some}
use Rattle.std.specs.List.{All}
use Rattle.std.specs.FinMap as map
use Rattle.dac_base.specs.declared.AppId.{AppId}
use Rattle.dac_config.specs.Table.{Table, app_count, node_count, is_mandatory, timeout_of}
use Rattle.dac_shapes.specs.declared.draft.SyncWait.TheVariants.{NoSync, Ms}
use Rattle.dac_chains.specs.Lives.{IsLive}
use Rattle.dac_decide.specs.declared.start_gate.Opening.TheVariants.{Opened, GiveUp}
use Rattle.dac_chains.specs.declared.claims.Claim.{Claim}
use Rattle.dac_placement.specs.StateValue.{StateValue}
use Rattle.dac_base.specs.declared.NodeId.{NodeId}
use Rattle.dac_placement.specs.declared.verdicts.Verdict.TheVariants.{Failover}
use Rattle.dac_placement.specs.Placement.{IsFirst, IsVerdict, verdict_of}
use Rattle.dac_decide.specs.FailoverWait.{Note, IsLost, lost_in, IsNotedSince, noted_of, noted_at, waits_of, IsDue, is_due}
use Rattle.dac_decide.specs.StartGate.{IsOpening, opening_of}

-- the lost claim of an application
abbrev pub LostInWords : Type 0
LostInWords = (s : StateValue) (app : AppId) (claim : Claim) → (lost_in s app ≡ Some claim) ↔ IsLost s app claim

-- The verdict is a failover exactly when the application's greatest claim is lost and there is a first choice. So a
-- start never replaces a failover and its wait.
abbrev pub LostFailsOver : Type 0
LostFailsOver = (table : Table) (s : StateValue) (app : AppId) (n : NodeId)
    → IsVerdict table s app (Failover n) ↔ (((claim : Claim) × IsLost s app claim) × IsFirst table s app n)

-- an application's timer: its claim, and since when
abbrev pub RowsInWords : Type 0
RowsInWords = (app : AppId) (notes : List Note) (claim : Claim) (since : ℕ)
    → (noted_of app notes ≡ Some (record { claim = claim; since = since })) ↔ IsNotedSince notes app claim since

-- whether an application's verdict must be carried out now
abbrev pub DueInWords : Type 0
DueInWords = (table : Table) (notes : List Note) (s : StateValue) (app : AppId) (now : ℕ)
    → (is_due table notes s app now ≡ true) ↔ IsDue table notes s app now

-- the state of a booted node's start gate
abbrev pub OpeningInWords : Type 0
OpeningInWords = (table : Table) (s : StateValue) (elapsed : ℕ) → IsOpening table s elapsed (opening_of table s elapsed)

-- waits have one place for each application, with its timer after these notes
abbrev pub NotesAreKept : Type 0
NotesAreKept = (table : Table) (notes : List Note)
    → (length (waits_of table notes) ≡ app_count table)
    × ((app : AppId) → app.0 < app_count table → noted_at (waits_of table notes) app ≡ noted_of app notes)

-- If a start-gate timeout is configured, the gate doesn't open while a mandatory node isn't live.
abbrev pub NotWithoutMandatory : Type 0
NotWithoutMandatory = (table : Table) (s : StateValue) (elapsed : ℕ) (node : NodeId) → ¬ (table.sync_wait ≡ NoSync)
    → node.0 < node_count table → is_mandatory table node ≡ true → ((inc : ℕ) → ¬ (IsLive s.lives node inc))
    → ¬ (opening_of table s elapsed ≡ Opened)

-- A failover to a node other than that of the lost claim isn't due until the application's timeout has passed since its
-- claim was first noted as lost.
abbrev pub NotBeforeItsTime : Type 0
NotBeforeItsTime = (table : Table) (notes : List Note) (s : StateValue) (app : AppId) (claim : Claim) (n : NodeId) (since now : ℕ)
    → verdict_of table s app ≡ Failover n → ¬ (claim.origin.node ≡ n) → IsNotedSince notes app claim since → IsLost s app claim
    → now < since + timeout_of table app → ¬ (IsDue table notes s app now)

-- the newest of these notes, if there is one, found another greatest claim than this, or its incarnation live
abbrev pub FoundOtherwise : List Note → AppId → Claim → Type 0
FoundOtherwise [] app claim = Unit {0}
FoundOtherwise (note ∷ older) app claim =
    map.get note.state.claims app ≡ Some claim → IsLive note.state.lives claim.origin.node claim.origin.inc

-- A wait begins anew with each lost claim, even one of the same term or node. Suppose that a note found another claim
-- or this one's incarnation live, or that there is no earlier note. While all notes since then are more recent than the
-- application's timeout, a failover to another node than that of the claim isn't due.
abbrev pub BeginsAnew : Type 0
BeginsAnew = (table : Table) (newer older : List Note) (s : StateValue) (app : AppId) (claim : Claim) (n : NodeId) (now : ℕ)
    → verdict_of table s app ≡ Failover n → map.get s.claims app ≡ Some claim → ¬ (claim.origin.node ≡ n)
    → FoundOtherwise older app claim → All (λ note. now < note.moment + timeout_of table app) newer
    → ¬ (IsDue table (newer ++ older) s app now)

-- A failover that returns the application to the node of its lost claim is due at once, whatever incarnation is live
-- there now.
abbrev pub ReturnsAtOnce : Type 0
ReturnsAtOnce = (table : Table) (notes : List Note) (s : StateValue) (app : AppId) (claim : Claim) (now : ℕ)
    → IsLost s app claim → verdict_of table s app ≡ Failover claim.origin.node → IsDue table notes s app now

-- The gate gives up only after a start-gate timeout in milliseconds. So without one, or with `infinity`, a node never
-- gives up.
abbrev pub GivesUpLate : Type 0
GivesUpLate = (table : Table) (s : StateValue) (elapsed : ℕ) → opening_of table s elapsed ≡ GiveUp
    → (wait : ℕ) × (table.sync_wait ≡ Ms wait) × (wait ≤ elapsed)
