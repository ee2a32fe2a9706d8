-- Where all is settled, a tick claims nothing.
use Rattle.std.proofs.Common.{◌≡◌, ℕ, ◌<◌, List, [], ◌∷◌, true, Option, Some, None, Result, Ok, refl, sym, ap, ◌∙◌}
use Rattle.dac_settle.specs.laws.Common.{and_parts, NodeId, AppId, Origin, Operation, StateValue, Table, app_count, verdict_of, candidate_of, waits_of, Opening, Shut, Opened, GiveUp, Noted, Reply, Refusal, Sweep, sweep_of, is_mine, swept_by, own_if, ModelNode, ModelRunning, joined, shown, running_shown, refusal_of, opening_at, note_of, ticks_by, step_by, IsSettled}
use Rattle.dac_messages.specs.declared.event.Event.TheVariants.{Tick}
use Rattle.dac_messages.specs.declared.reply.Reply.TheVariants.{Ticked}
use Rattle.dac_ticks.specs.laws.Sweeping.{numbered, sweep_reaches}
use Rattle.dac_model_world.specs.Step.{model_step}
use Rattle.dac_settle.specs.Rules.{judged}
use Rattle.dac_settle.specs.AtRest.{SettledClaimNothing}
use Rattle.dac_settle.specs.laws.WorkedRound.{nobody_claims}

none_some : {X : Type 0} {v : X} {Y : Type 0} → ◌≡◌ {A = Option X} None (Some v) → Y
none_some e = cc

-- ---- the effect of a tick

module _ (t : Table) (own : Origin) (noted : List (Option Noted)) (now : ℕ) (s : StateValue)
    (settled : (app : AppId) → app.0 < app_count t → IsSettled (judged t s app))
  where
    -- no claim is made yet
    record IsIdle (sweep : Sweep) : Type 0 where
      state : sweep.state ≡ s
      ops : sweep.ops ≡ []

    not_mine : (sweep : Sweep) (app : AppId) → app.0 < app_count t → sweep.state ≡ s → ¬ (is_mine t own noted now sweep.state app ≡ true)
    not_mine sweep app lt same mine =
        let own_is : candidate_of (verdict_of t sweep.state app) ≡ Some own.node = own_if own (candidate_of (verdict_of t sweep.state app)) (and_parts _ _ mine).0 in
        none_some (sym (nobody_claims (verdict_of t s app) (settled app lt)) ∙ ap (λ u. candidate_of (verdict_of t u app)) (sym same) ∙ own_is)

    idle : IsIdle (sweep_of t own noted now s)
    idle = sweep_reaches t own noted now (λ n sweep. IsIdle sweep) s (record { state = refl; ops = refl }) (λ n sweep lt h.
        swept_by t own noted now IsIdle sweep (numbered n)
        (λ none. h)
        (λ mine used. record { state = h.state; ops = h.ops })
        (λ mine left. absurd (not_mine sweep (numbered n) lt h.state mine)))

-- ---- a tick

module _ (t : Table) (me : NodeId) (last now : ℕ) (r : ModelRunning) (settled : (app : AppId) → app.0 < app_count t → IsSettled (judged t (joined r.log) app)) (ops : List Operation) (passed : List AppId) where
  abbrev noted : List (Option Noted)
  noted = waits_of t (note_of (joined r.log) (Tick now) ∷ r.notes)

  by_opening : (o : Opening) → ◌≡◌ {A = Result Reply Refusal} (Ok (ticks_by o t (running_shown t r) noted now).reply) (Ok (Ticked ops passed)) → ops ≡ []
  by_opening Shut answer = cc
  by_opening GiveUp answer = cc
  by_opening Opened answer =
      let same : (sweep_of t r.origin noted now (joined r.log)).ops ≡ ops = cc in
      sym same ∙ (idle t r.origin noted now (joined r.log) settled).ops

  by_refusal : (x : Option Refusal) → (step_by x t me (record { last = last; running = Some r }) (Tick now)).answer ≡ Ok (Ticked ops passed) → ops ≡ []
  by_refusal (Some why) answer = cc
  by_refusal None answer = by_opening (opening_at t (running_shown t r) now) answer

pub settled_claim_nothing : SettledClaimNothing
settled_claim_nothing t me d r now ops passed runs settled answer =
    let at : ModelNode = record { last = d.last; running = Some r } in
    let same : d ≡ at = λ i. record { last = d.last; running = runs i } in
    by_refusal t me d.last now r settled ops passed (refusal_of t (shown t at) (Tick now)) (ap (λ (n : ModelNode). (model_step t me n (Tick now)).answer) (sym same) ∙ answer)
