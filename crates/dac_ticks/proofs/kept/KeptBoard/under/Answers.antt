use Rattle.std.proofs.Common.{refl, sym, subst}
use Rattle.dac_ticks.specs.KeptBoards.{KeptBoardValue, IsBoardOf}
use Rattle.dac_ticks.proofs.kept.KeptBoard.under.Goals as goal

pub returns-then-are_alike-clause-shows : goal.returns-then-are_alike-clause-shows
returns-then-are_alike-clause-shows c = λ s shows.
    c.if-are_alike.ensures.goes refl c.self.inside.board s (subst (λ (kept : KeptBoardValue). IsBoardOf kept s) (sym c.self.view_is) shows)
