use Rattle.std.proofs.Common.{◌∷◌, [], ◌++◌, length, sym, ap, ap₂, ◌∙◌, arith}
use Rattle.dac_board.specs.Boards.{row_of}
use Rattle.dac_placement.specs.laws.Counting.{numbered_app}
use Rattle.dac_board.proofs.Filling.{filled_more, length_filled}
use Rattle.dac_board.proofs.board.Board.new.Goals as goal

pub loop-number-preserved : goal.loop-number-preserved
loop-number-preserved c =
    c.in_ok-push.ensures.items ∙ ap₂ (λ l x. l ++ x ∷ []) c.loop-number.invariant c.in_ok-row.ensures
    ∙ sym (filled_more numbered_app (row_of c.args.config.now c.args.state.now) c.loop-number.number)

pub invariant_of-result : goal.invariant_of-result
invariant_of-result c =
    let rows = ap length c.loop-number.invariant ∙ length_filled numbered_app (row_of c.args.config.now c.args.state.now) c.loop-number.number in
    let end = c.loop-number.auto.number-end in
    let few = c.apps-number-end.ensures.few in
    omega (arith, rows, end, few)
