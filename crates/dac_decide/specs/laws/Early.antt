-- Guarantees for operators: the gate doesn't open without a mandatory node, and no failover happens before its timeout.
use Rattle.std.proofs.Common.{◌≡◌, ℕ, ◌+◌, ◌<◌, ◌≤◌, List, [], ◌∷◌, ◌++◌, Option, Some, refl, sym, ap, subst, ◌∙◌, arith, inl, inr}
use Rattle.std.specs.Prelude.{◌||◌}
use Rattle.std.specs.FinMap as map
use Rattle.std.specs.List.{All}
use Rattle.std.proofs.lemmas.List.Elements.{All-tail}
use Rattle.dac_base.specs.declared.AppId.{AppId}
use Rattle.dac_chains.specs.Lives.{IsLive}
use Rattle.dac_chains.specs.declared.claims.Claim.{Claim}
use Rattle.dac_placement.specs.declared.verdicts.Verdict.TheVariants.{Failover}
use Rattle.dac_config.specs.Table.{is_optional, timeout_of}
use Rattle.dac_decide.specs.declared.waits.Noted.{Noted}
use Rattle.dac_decide.specs.declared.start_gate.Opening.TheVariants.{Opened}
use Rattle.dac_shapes.specs.declared.draft.SyncWait.{SyncWait}
use Rattle.dac_shapes.specs.declared.draft.SyncWait.TheVariants.{NoSync, Forever, Ms}
use Rattle.dac_decide.specs.StartGate.{IsOpening, IsTimeLeft}
use Rattle.dac_decide.specs.FailoverWait.{Note, IsLost, IsDueBy, IsWaitOver}
use Rattle.dac_decide.specs.InWords.{NotWithoutMandatory, NotBeforeItsTime, FoundOtherwise, BeginsAnew, ReturnsAtOnce, GivesUpLate}
use Rattle.dac_decide.specs.laws.Rows.{to_noted}
use Rattle.dac_decide.specs.laws.AllUp.{opening_is}

pub not_without_mandatory : NotWithoutMandatory
not_without_mandatory table s elapsed node waits lt is gone e = by (subst (IsOpening table s elapsed) e (opening_is table s elapsed))
  where
    by : ¬ (IsOpening table s elapsed Opened)
    by (inl none) = waits none
    by (inr (inl all)) = let up = all node lt (ap (λ b. b || is_optional table node) is) in gone up.0 up.1
    by (inr (inr late)) = let up = late.1 node lt is in gone up.0 up.1

same_claim : {a b : Claim} → ◌≡◌ {A = Option Claim} (Some a) (Some b) → a ≡ b
same_claim e = cc

same_noted : {a b : Noted} → ◌≡◌ {A = Option Noted} (Some a) (Some b) → a.since ≡ b.since
same_noted e = cc

pub not_before : NotBeforeItsTime
not_before table notes s app claim n since now verdict other row lost early due = by (subst (IsDueBy table notes s app now) verdict due)
  where
    late : IsWaitOver table notes s app now → ⊥
    late over =
        let same = same_claim (sym over.lost.greatest ∙ lost.greatest) in
        let since_is = same_noted (sym (to_noted app notes over.claim over.since over.noted) ∙ to_noted app notes claim since row) in
        let enough = over.over in
        omega (arith, since_is, enough, early)

    by : ¬ (IsDueBy table notes s app now (Failover n))
    by (inl held) = other (ap (λ (c : Claim). c.origin.node) (same_claim (sym lost.greatest ∙ held.1)) ∙ held.2)
    by (inr over) = late over

-- the oldest note of a row of notes that found the claim lost is one of those since the last that found it otherwise
begun_since : (wait now : ℕ) (app : AppId) (claim : Claim) (newer older row : List Note) (begin : Note) (before : List Note) → newer ++ older ≡ row ++ begin ∷ before
    → All (λ note. IsLost note.state app claim) (row ++ begin ∷ []) → FoundOtherwise older app claim → All (λ note. now < note.moment + wait) newer → now < begin.moment + wait
begun_since wait now app claim [] [] [] begin before e lost other recent = absurd cc
begun_since wait now app claim [] [] (note ∷ row) begin before e lost other recent = absurd cc
begun_since wait now app claim [] (found ∷ older) [] begin before e lost other recent =
    let is : found ≡ begin = cc in
    let here = lost 0 begin (omega arith) in
    absurd (here.down (subst (λ (x : Note). map.get x.state.claims app ≡ Some claim → IsLive x.state.lives claim.origin.node claim.origin.inc) is other here.greatest))
begun_since wait now app claim [] (found ∷ older) (note ∷ row) begin before e lost other recent =
    let is : found ≡ note = cc in
    let here = lost 0 note (omega arith) in
    absurd (here.down (subst (λ (x : Note). map.get x.state.claims app ≡ Some claim → IsLive x.state.lives claim.origin.node claim.origin.inc) is other here.greatest))
begun_since wait now app claim (first ∷ newer) older [] begin before e lost other recent =
    let is : first ≡ begin = cc in
    subst (λ (x : Note). now < x.moment + wait) is (recent 0 first (omega arith))
begun_since wait now app claim (first ∷ newer) older (note ∷ row) begin before e lost other recent =
    let rest : newer ++ older ≡ row ++ begin ∷ before = cc in
    begun_since wait now app claim newer older row begin before rest (All-tail (λ (x : Note). IsLost x.state app claim) note (row ++ begin ∷ []) lost) other (All-tail (λ (x : Note). now < x.moment + wait) first newer recent)

pub begins_anew : BeginsAnew
begins_anew table newer older s app claim n now verdict greatest other found recent due = by (subst (IsDueBy table (newer ++ older) s app now) verdict due)
  where
    late : IsWaitOver table (newer ++ older) s app now → ⊥
    late over =
        let noted = over.noted in
        let same : over.claim ≡ claim = same_claim (sym over.lost.greatest ∙ greatest) in
        let early = begun_since (timeout_of table app) now app over.claim newer older noted.row noted.begin noted.before noted.parts noted.lost (subst (FoundOtherwise older app) (sym same) found) recent in
        let begins = noted.moment in
        let enough = over.over in
        omega (arith, early, begins, enough)

    by : ¬ (IsDueBy table (newer ++ older) s app now (Failover n))
    by (inl held) = other (ap (λ (c : Claim). c.origin.node) (same_claim (sym greatest ∙ held.1)) ∙ held.2)
    by (inr over) = late over

pub returns_at_once : ReturnsAtOnce
returns_at_once table notes s app claim now lost verdict = subst (IsDueBy table notes s app now) (sym verdict) (inl (claim, lost.greatest, refl))

pub gives_up_late : GivesUpLate
gives_up_late table s elapsed e = let is = subst (IsOpening table s elapsed) e (opening_is table s elapsed) in by table.sync_wait is.0 is.1
  where
    at_most : (a b : ℕ) → ¬ (a < b) → b ≤ a
    at_most a b not_less = omega (arith, not_less)

    by : (w : SyncWait) → ¬ (w ≡ NoSync) → ¬ (IsTimeLeft w elapsed) → (wait : ℕ) × (w ≡ Ms wait) × (wait ≤ elapsed)
    by NoSync waits over = absurd (waits refl)
    by Forever waits over = absurd (over tt)
    by (Ms wait) waits over = (wait, refl, at_most elapsed wait over)
