use Rattle.std.proofs.Common.{◌≡◌, true, sym, ap, ◌∙◌}
use Rattle.dac_node.proofs.Common.{unwrap_or, ltb-false, none_is, meanings, Ticks, TickChange}
use Rattle.dac_messages.specs.declared.reply.Reply.TheVariants.{Ticked}
use Rattle.dac_model_node.specs.dac_ticks.Ticks.{sweep_of}
use Rattle.dac_model_node.specs.dac_ticks.laws.Claims.{state_joined}
use Rattle.dac_model_node.specs.EventRefusals.{causes_to_tick}
use Rattle.dac_model_node.specs.Transitions.{ticks_by}
use Rattle.dac_node.proofs.Ticks.{tick_effect, left_by}
use Rattle.dac_node.proofs.ticking.open_tick.Goals.{in-Some, in-None}
use Rattle.dac_node.proofs.ticking.open_tick.Goals as goal

pub returns : goal.returns
returns c =
    let t = c.args.config.now in
    let r = c.args.running.now in
    let now = c.args.now in
    let noted = c.match-waits.noted.now in
    let waits : unwrap_or c.in_ok-waits.waits r.waits ≡ noted = elim c.match-waits.branch [
      | in-Some w ↦ ap (λ o. unwrap_or o r.waits) w.in-Some.is ∙ (λ i. (sym w.noted-is i).now)
      | in-None w ↦ ap (λ o. unwrap_or o r.waits) w.in-None.is ∙ (λ i. (sym c.running.view_is i).waits) ∙ (λ i. (sym w.noted-is i).now)
    ] in
    let sweep = sweep_of t r.origin noted now r.state in
    let made = c.in_ok-sweep.ensures in
    let items = c.in_ok-deltas.ensures ∙ ap meanings (c.as_slice.ensures ∙ made.ops) in
    let order = ltb-false now r.moments.last (none_is (causes_to_tick t r now) c.requires.accepted).1.0 in
    let left = left_by r.state sweep c.in_ok-sweep.sweep.left c.in_ok-deltas.deltas.items made.left items (state_joined t r.origin noted now r.state) in
    let ticks : TickChange = record { now = now; is_open = true; waits = c.in_ok-waits.waits; state = c.in_ok-sweep.sweep.left; deltas = c.in_ok-deltas.deltas } in
    tick_effect t c.args.last r now ticks (Ticked sweep.ops sweep.passed) (meanings sweep.ops) noted c.in_ok-change.change
    (ap (λ o. ticks_by o t r noted now) c.requires.open) (λ _ notes stands. sym waits ∙ c.in_ok-waits.ensures notes stands) waits items (record { order = order; state = left })
    (c.in_ok-change.ensures ∙ (λ i. record { last = c.args.last; after = Ticks ticks; reply = Ticked (made.ops i) (made.passed i) }))
