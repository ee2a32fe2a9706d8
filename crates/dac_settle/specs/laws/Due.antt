-- In a ready world each candidate's verdict is due: its lost claim was noted, and has waited.
use Rattle.std.proofs.Common.{◌≡◌, ℕ, true, ◌∷◌, ◌++◌, [], List, Option, Some, None, option_map, refl, sym, ap, subst, inr}
use Rattle.dac_settle.specs.laws.Common.{false≢true, NodeId, AppId, Origin, StateValue, Table, Verdict, Failover, Halted, Move, Takeover, Kept, Nobody, holder_of, IsVerdict, verdict_of, candidate_of, verdict_in_words, Note, IsLost, IsLostByNewest, IsLate}
use Rattle.std.specs.Option.{is_some}
use Rattle.std.specs.FinMap as map
use Rattle.std.proofs.lemmas.List.Elements.{All-cons}
use Rattle.dac_chains.specs.declared.claims.Claim.{Claim}
use Rattle.dac_placement.specs.declared.verdicts.Verdict.TheVariants.{Start}
use Rattle.dac_placement.specs.Placement.{IsUp}
use Rattle.dac_decide.specs.FailoverWait.{IsNotedSince, IsWaitOver, IsDueBy, is_due}
use Rattle.dac_decide.specs.laws.Rows.{lost_newest, noted_to}
use Rattle.dac_decide.specs.laws.Due.{due_to_words}
use Rattle.dac_settle.specs.laws.AnyPlacement.{one}

none_some : {X : Type 0} {v : X} {Y : Type 0} → ◌≡◌ {A = Option X} None (Some v) → Y
none_some e = absurd (false≢true (ap is_some e))

module _ (s : StateValue) (app : AppId) where
  -- the greatest claim of an application whose holder isn't live is lost
  lost_by : (o : Origin) (greatest : Option Claim) → map.get s.claims app ≡ greatest → option_map (λ (c : Claim). c.origin) greatest ≡ Some o → ¬ IsUp s o → (claim : Claim) × IsLost s app claim
  lost_by o None is held down = none_some held
  lost_by o (Some claim) is held down = (claim, record { greatest = is; down = λ up. down (subst (IsUp s) (one held) up) })

  lost_of : (o : Origin) → holder_of s app ≡ Some o → ¬ IsUp s o → (claim : Claim) × IsLost s app claim
  lost_of o held down = lost_by o (map.get s.claims app) refl held down

-- one more note in a row
row_more : (note : Note) (older : List Note) (app : AppId) (claim : Claim) (since : ℕ) → IsLost note.state app claim → IsNotedSince older app claim since → IsNotedSince (note ∷ older) app claim since
row_more note older app claim since lost is = record {
  row = note ∷ is.row;
  begin = is.begin;
  before = is.before;
  parts = ap (λ ns. note ∷ ns) is.parts;
  lost = All-cons (λ (x : Note). IsLost x.state app claim) note (is.row ++ is.begin ∷ []) lost is.lost;
  begins = is.begins;
  moment = is.moment;
}

module _ (t : Table) (s : StateValue) (app : AppId) (note : Note) (notes : List Note) (now : ℕ) (late : IsLate t notes now)
    (before : (claim : Claim) → IsLost s app claim → IsLostByNewest notes app claim)
    (found : (claim : Claim) → IsLost s app claim → IsLost note.state app claim) where
  -- the wait of the lost claim is over
  over : (claim : Claim) → IsLost s app claim → IsWaitOver t (note ∷ notes) s app now
  over claim lost =
      let n = lost_newest app notes claim (before claim lost) in
      let row = noted_to app notes n.0 n.1 in
      let same : IsLost s app n.0.claim = subst (IsLost s app) (sym n.2) lost in
      record { claim = n.0.claim; since = n.0.since; lost = same; noted = row_more note notes app n.0.claim n.0.since (found n.0.claim same) row; over = late app n.0.claim n.0.since row }

  due_by : (n : NodeId) (v : Verdict) → IsVerdict t s app v → candidate_of v ≡ Some n → IsDueBy t (note ∷ notes) s app now v
  due_by n (Start m) is e = tt
  due_by n (Failover m) is e = let claim = lost_of s app is.0.0 is.0.1 is.0.2 in inr (over claim.0 claim.1)
  due_by n (Halted m) is e = none_some e
  due_by n (Move m) is e = tt
  due_by n (Takeover m) is e = tt
  due_by n (Kept m) is e = none_some e
  due_by n Nobody is e = none_some e

  -- the candidate should claim the application now
  pub candidate_due : (n : NodeId) → candidate_of (verdict_of t s app) ≡ Some n → is_due t (note ∷ notes) s app now ≡ true
  candidate_due n e = (due_to_words t (note ∷ notes) s app now).1 (due_by n (verdict_of t s app) (verdict_in_words t s app) e)
