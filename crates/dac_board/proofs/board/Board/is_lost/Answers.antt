use Rattle.std.proofs.Common.{◌≡◌, length, get_or, sym, ap, ◌∙◌, arith}
use Rattle.dac_config.specs.Table.{app_count}
use Rattle.dac_board.specs.Boards.{BoardValue, RowValue, row_of, rows_of, is_lost_at}
use Rattle.dac_board.specs.Rows.{no_row}
use Rattle.dac_placement.specs.laws.Counting.{numbered_app}
use Rattle.dac_board.proofs.Filling.{length_filled, filled_at, get_any}
use Rattle.std.proofs.lemmas.Bool.{ltb-true, ltb-false}
use Rattle.dac_board.proofs.board.Board.is_lost.Goals as goal

pub returns-in-Some : goal.returns-in-Some
returns-in-Some c = λ table s shows lt.
    let rows = c.deref.result.now in
    let app = c.args.app in
    let at_first : rows ≡ rows_of table s = c.deref.ensures.value ∙ ap (λ (b : BoardValue). b.rows) c.self.view_is ∙ shows in
    let inside = ltb-true _ _ (sym c.in-Some.ensures.lookup.0) in
    let row : c.in-Some.row.now ≡ row_of table s app = c.in-Some.ensures.lookup.1 ∙ get_any rows app.0 _ no_row inside ∙ ap (λ l. get_or l app.0 no_row) at_first ∙ filled_at numbered_app (row_of table s) (app_count table) app.0 no_row lt in
    c.is_lost_at.ensures ∙ ap is_lost_at (c.standing.ensures ∙ ap (λ (r : RowValue). r.standing) row)

pub returns-in-None : goal.returns-in-None
returns-in-None c = λ table s shows lt.
    let rows = c.deref.result.now in
    let at_first : rows ≡ rows_of table s = c.deref.ensures.value ∙ ap (λ (b : BoardValue). b.rows) c.self.view_is ∙ shows in
    let all = ap length at_first ∙ length_filled numbered_app (row_of table s) (app_count table) in
    let past = ltb-false _ _ (sym c.in-None.ensures.lookup.0) in
    absurd (omega (arith, all, past, lt))
