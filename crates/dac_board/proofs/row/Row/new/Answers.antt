use Rattle.std.proofs.Common.{◌∷◌, [], ◌++◌, length, sym, ap, ap₂, subst, ◌∙◌, arith}
use Rattle.dac_board.specs.Boards.{spot_of}
use Rattle.dac_board.specs.Settled.{IsSettled}
use Rattle.dac_placement.specs.laws.FirstChoice.{numbered}
use Rattle.dac_board.proofs.Filling.{filled_more, length_filled}
use Rattle.dac_board.proofs.row.Row.new.Goals as goal

pub loop-number-preserved : goal.loop-number-preserved
loop-number-preserved c =
    c.in_ok-push.ensures.items ∙ ap₂ (λ l x. l ++ x ∷ []) c.loop-number.invariant c.look-spot.ensures.value
    ∙ sym (filled_more numbered (spot_of c.args.config.now c.args.state.now c.args.app) c.loop-number.number)

pub settle-settled-requires : goal.settle-settled-requires
settle-settled-requires c =
    let rows = ap length (c.deref.ensures.value ∙ c.loop-number.invariant) ∙ length_filled numbered (spot_of c.args.config.now c.args.state.now c.args.app) c.loop-number.number in
    let end = c.loop-number.auto.number-end in
    let few = c.nodes-number-end.ensures.few in
    omega (arith, rows, end, few)

pub invariant_of-result : goal.invariant_of-result
invariant_of-result c =
    let rows = ap length c.loop-number.invariant ∙ length_filled numbered (spot_of c.args.config.now c.args.state.now c.args.app) c.loop-number.number in
    let end = c.loop-number.auto.number-end in
    let few = c.nodes-number-end.ensures.few in
    (subst (IsSettled c.settle-settled.result c.standing_of-standing.result c.group_held-group.result) c.deref.ensures.value c.settle-settled.ensures, omega (arith, rows, end, few))
