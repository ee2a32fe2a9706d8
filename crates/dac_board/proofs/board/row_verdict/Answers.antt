use Rattle.std.proofs.Common.{Option, Some, sym, ap, ◌∙◌}
use Rattle.std.specs.Option.{option_map_or}
use Rattle.std.proofs.lemmas.Bool.{ltb-true, ltb-false}
use Rattle.std.proofs.lemmas.Option.{slice_get-get_or, slice_get_past}
use Rattle.dac_placement.specs.declared.verdicts.Verdict.{Verdict}
use Rattle.dac_placement.specs.declared.verdicts.Verdict.TheVariants.{Nobody}
use Rattle.dac_placement.specs.Choices.{verdict_on}
use Rattle.dac_board.specs.Boards.{RowValue}
use Rattle.dac_board.specs.Rows.{first_on}
use Rattle.dac_board.proofs.board.row_verdict.Goals as goal

pub returns-in-None-settled : goal.returns-in-None-settled
returns-in-None-settled c =
    let rows = c.args.rows.now in
    let app = c.args.app in
    let row = c.in-Some.row.now in
    let by_row : Option RowValue → Verdict = λ o. option_map_or (λ (r : RowValue). verdict_on r.standing r.group (first_on rows app r.spots)) o Nobody in
    c.verdict_on.ensures
    ∙ (λ i. verdict_on (c.standing.ensures i) (c.group.ensures i) (c.first_choice_by-first.ensures i))
    ∙ ap (λ spots. verdict_on row.standing row.group (first_on rows app spots)) c.spots.ensures.spots
    ∙ sym (ap by_row (slice_get-get_or rows app.0 row (ltb-true _ _ (sym c.in-Some.ensures.lookup.0)) ∙ ap (λ r. Some r) (sym c.in-Some.ensures.lookup.1)))

pub returns-in-None : goal.returns-in-None
returns-in-None c =
    let rows = c.args.rows.now in
    let app = c.args.app in
    let by_row : Option RowValue → Verdict = λ o. option_map_or (λ (r : RowValue). verdict_on r.standing r.group (first_on rows app r.spots)) o Nobody in
    sym (ap by_row (slice_get_past rows app.0 (ltb-false _ _ (sym c.in-None.ensures.lookup.0))))
