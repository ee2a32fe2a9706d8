use Rattle.std.proofs.Common.{ap, ◌∙◌}
use Rattle.dac_board.specs.Boards.{BoardValue}
use Rattle.dac_board.proofs.Shown.{load_same}
use Rattle.dac_board.proofs.board.Board.load.Goals as goal

pub returns : goal.returns
returns c = λ table s shows.
    c.load_by.ensures
    ∙ load_same table s c.deref.result.now (c.deref.ensures.value ∙ ap (λ (b : BoardValue). b.rows) c.self.view_is ∙ shows) c.args.app c.args.node
