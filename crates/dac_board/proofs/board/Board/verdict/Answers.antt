use Rattle.std.proofs.Common.{ap, ◌∙◌}
use Rattle.dac_board.specs.Boards.{BoardValue}
use Rattle.dac_board.proofs.Shown.{verdict_same}
use Rattle.dac_board.proofs.board.Board.verdict.Goals as goal

pub returns : goal.returns
returns c = record {
  value = λ table s shows lt.
      c.row_verdict.ensures
      ∙ verdict_same table s c.deref.result.now (c.deref.ensures.value ∙ ap (λ (b : BoardValue). b.rows) c.self.view_is ∙ shows) c.args.app lt;
}
