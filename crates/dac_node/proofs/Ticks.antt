-- The effect of a tick that finds the start gate open.
use Rattle.std.proofs.Common.{◌≡◌, ℕ, true, List, [], Option, Some, None, sym, ap, ◌∙◌}
use Rattle.dac_node.proofs.Common.{fold, unwrap_or, MatchOption, StateValue, join, Table, pushed, Noted, Reply, RunningValue, meanings, transition_of, IsNoting, Ticks, TickChange, IsTickAt, ChangeValue, Effect}
use Rattle.dac_messages.specs.declared.event.Event.TheVariants.{Tick}
use Rattle.dac_model_node.specs.dac_ticks.Ticks.{Sweep}
use Rattle.dac_model_node.specs.Transitions.{keeps}
use Rattle.dac_node.proofs.Effects.{effect_by, trimmed_none}

-- the state that a tick leaves is the present one with its deltas
state_is : (s : StateValue) (left : Option StateValue) (deltas : List StateValue) → MatchOption left (deltas ≡ []) (λ after. after ≡ fold join s deltas)
    → unwrap_or left s ≡ fold join s deltas
state_is s None deltas none = ap (fold join s) (sym none)
state_is s (Some after) deltas is = is

pub tick_effect : (t : Table) (number : ℕ) (r : RunningValue) (now : ℕ) (x : TickChange) (reply : Reply) (adds : List StateValue) (noted : List (Option Noted)) (change : ChangeValue)
    → transition_of t r noted (Tick now) ≡ record (keeps r reply adds) { last = x.now; is_open = x.is_open; notes = true }
    → IsNoting t r noted (Tick now) → unwrap_or x.waits r.waits ≡ noted → x.deltas.items ≡ adds → IsTickAt r x
    → change ≡ record { last = number; after = Ticks x; reply = reply } → Effect t number r (Tick now) change
tick_effect t number r now x reply adds noted change is noting waits items at changes =
    let state = state_is r.state x.state x.deltas.items at.state ∙ ap (fold join r.state) items in
    let kept = ap (fold pushed r.kept) items ∙ trimmed_none (fold pushed r.kept adds) in
    effect_by t number r (Tick now) noted (record (keeps r reply adds) { last = x.now; is_open = x.is_open; notes = true }) is noting (Ticks x) change changes
    (λ i. Some (record r { moments = record { booted = r.moments.booted; last = x.now }; is_open = x.is_open; waits = waits i; state = state i; kept = kept i })) items at

-- the state after the claims of a sweep
pub left_by : (before : StateValue) (sweep : Sweep) (left : Option StateValue) (deltas : List StateValue)
    → MatchOption left ((sweep.ops ≡ []) × (sweep.state ≡ before)) (λ after. (after ≡ sweep.state) × ¬ (sweep.ops ≡ []))
    → deltas ≡ meanings sweep.ops → sweep.state ≡ fold join before (meanings sweep.ops)
    → MatchOption left (deltas ≡ []) (λ after. after ≡ fold join before deltas)
left_by before sweep None deltas is items joined = items ∙ ap meanings is.0
left_by before sweep (Some after) deltas is items joined = is.0 ∙ joined ∙ ap (fold join before) (sym items)
