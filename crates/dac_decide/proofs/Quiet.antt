-- A note changes nothing if no timer runs and no claim is lost in its state.
use Rattle.std.proofs.Common.{◌≡◌, ℕ, zero, suc, add-one, ◌+◌, ◌<◌, true, false, Bool, not, List, [], ◌∷◌, ◌++◌, Option, Some, None, subst, refl, sym, ◌∙◌, arith}
use Rattle.std.specs.Prelude.{is_some, option_map, if◌then◌else◌}
use Rattle.std.specs.Option.{option_map_or, option_and_then}
use Rattle.std.specs.FinMap as map
use Rattle.std.proofs.lemmas.Bool.{true≢false}
use Rattle.dac_base.specs.declared.AppId.{AppId}
use Rattle.dac_base.specs.declared.NodeId.{NodeId}
use Rattle.dac_config.specs.Table.{Table, app_count}
use Rattle.dac_chains.specs.declared.claims.Claim.{Claim}
use Rattle.dac_placement.specs.StateValue.{StateValue}
use Rattle.dac_placement.specs.declared.standing.Standing.TheVariants.{Lost, Stopped, Barred, Upheld, Unclaimed}
use Rattle.dac_placement.specs.Placement.{standing_at, standing_of, is_up, is_started_at, is_allowed_at, key_of}
use Rattle.dac_board.specs.Boards.{is_lost_at}
use Rattle.dac_decide.specs.FailoverWait.{Note, lost_if, lost_in, noted_next, noted_of, waits_of}
use Rattle.dac_decide.specs.laws.Kept.{numbered, kept_of, kept_more, kept_is}
use Rattle.dac_decide.specs.Quiet.{AreQuiet}

-- ---- a board determines which claims are lost

-- a live holder isn't lost
at_live : (started allowed : Bool) (node : NodeId) → is_lost_at (if not started then Stopped node else if not allowed then Barred else Upheld node) ≡ false
at_live false allowed node = refl
at_live true false node = refl
at_live true true node = refl

at_holder : (table : Table) (s : StateValue) (app : AppId) (claim : Claim) → is_lost_at (standing_at table s app claim.origin) ≡ is_some (lost_if s claim)
at_holder table s app claim =
    let o = claim.origin in
    elim (is_up s o) as (λ up. is_lost_at (if not up then Lost else if not (is_started_at s (key_of app o)) then Stopped o.node else if not (is_allowed_at table s (key_of app o)) then Barred else Upheld o.node) ≡ is_some (if up then None else Some claim)) [
      | true ↦ at_live (is_started_at s (key_of app o)) (is_allowed_at table s (key_of app o)) o.node
      | false ↦ refl
    ]

by_claim : (table : Table) (s : StateValue) (app : AppId) (greatest : Option Claim) → is_lost_at (option_map_or (standing_at table s app) (option_map (λ (claim : Claim). claim.origin) greatest) Unclaimed) ≡ is_some (option_and_then (lost_if s) greatest)
by_claim table s app None = refl
by_claim table s app (Some claim) = at_holder table s app claim

pub standing_lost : (table : Table) (s : StateValue) (app : AppId) → is_lost_at (standing_of table s app) ≡ is_some (lost_in s app)
standing_lost table s app = by_claim table s app (map.get s.claims app)

pub none_is : {X : Type 0} (o : Option X) → is_some o ≡ false → o ≡ None
none_is None e = refl
none_is (Some x) e = absurd (true≢false e)

-- ---- a loop over applications

-- a note changes nothing of an application that has no timer and whose claim isn't lost
one_stays : (notes : List Note) (note : Note) (app : AppId) → noted_of app notes ≡ None → lost_in note.state app ≡ None → noted_of app notes ≡ noted_of app (note ∷ notes)
one_stays notes note app none lost = none ∙ sym (λ i. noted_next (none i) (lost i) note.moment)

kept_stays : (table : Table) (notes : List Note) (note : Note) → AreQuiet table (waits_of table notes) note.state → (n : ℕ) → ((k : ℕ) → k < n → k < app_count table) → kept_of notes 0 n ≡ kept_of (note ∷ notes) 0 n
kept_stays table notes note quiet zero within = refl
kept_stays table notes note quiet (suc n) within =
    let here = quiet (numbered n) (within n (omega arith)) in
    let before = kept_stays table notes note quiet n (λ k lt. within k (omega arith)) in
    let one = one_stays notes note (numbered n) (sym (kept_is table notes (numbered n) (within n (omega arith))) ∙ here.noted) here.lost in
    subst (λ m. kept_of notes 0 m ≡ kept_of (note ∷ notes) 0 m) (add-one n)
    (kept_more notes n ∙ (λ i. before i ++ one i ∷ []) ∙ sym (kept_more (note ∷ notes) n))

-- quiet waits are unchanged by a note
pub quiet_stays : (table : Table) (notes : List Note) (note : Note) → AreQuiet table (waits_of table notes) note.state → waits_of table notes ≡ waits_of table (note ∷ notes)
quiet_stays table notes note quiet = kept_stays table notes note quiet (app_count table) (λ k lt. lt)
