use Rattle.std.proofs.Common.{rules, ◌≡◌, ◌<◌, ◌-◌, ◌^◌, length, get_or, refl, sym, ap, ◌∙◌, arith, length-set}
use Rattle.std.proofs.lemmas.Bool.{not-true}
use Rattle.std.proofs.lemmas.List.FromFn.{sum_by-map-range_with_len_more}
use Rattle.dac_config.specs.Table.{app_count}
use Rattle.dac_board.specs.Boards.{BoardValue, row_of, rows_of}
use Rattle.dac_board.specs.Rows.{no_row}
use Rattle.dac_board.specs.Touched.{touched_of}
use Rattle.dac_board.specs.Marks.{is_marked}
use Rattle.dac_placement.specs.laws.Counting.{numbered_app}
use Rattle.dac_board.proofs.Filling.{filled_by, filled_at, length_filled, one_more, rest_kept, get_any, more_summed}
use Rattle.dac_board.proofs.Untouched.{touched_words, untouched_outside}
use Rattle.dac_board.proofs.board.Board.absorb.Goals as goal

pub loop-place-init : goal.loop-place-init
loop-place-init c = record {
  long = refl;
  done = λ shows k lt. absurd (omega arith);
  left = λ shows k le lt. ap (λ l. get_or l k no_row) shows ∙ filled_at numbered_app (row_of c.args.config.now c.args.old.now) (app_count c.args.config.now) k no_row lt;
  few = omega arith;
  rises = omega arith;
}

pub loop-place-preserved : goal.loop-place-preserved
loop-place-preserved c =
    let table = c.args.config.now in
    let old = c.args.old.now in
    let new = c.args.new.now in
    let place = c.loop-place.place in
    let items = c.loop-place.self-inside.rows.items in
    let before = c.loop-place.invariant in
    let under = c.loop-place-test.true in
    let least = c.min-places.ensures in
    let len = c.len.ensures in
    let count = c.apps.ensures.count in
    let limit = c.apps.ensures.few in
    let long = before.long in
    let inside : place < length items = omega (arith, under, least, len, long) in
    let within : place < app_count table = omega (arith, under, least, count) in
    let row : c.index_mut-row.result.now ≡ get_or items place no_row = c.index_mut-row.ensures.value ∙ get_any items place c.index_mut-row.result.now no_row inside in
    let words : length c.moved_by-moved.result ≡ 64 = search rules in
    let few = before.few in
    let rises = before.rises in
    let more = c.absorb.ensures.rises in
    let once = c.absorb.ensures.few in
    let summed = sum_by-map-range_with_len_more (touched_of table old new) numbered_app 0 place place (omega arith) in
    record {
      long = length-set items place c.absorb.new.self ∙ long;
      done = λ shows k lt. one_more numbered_app (row_of table new) items place c.absorb.new.self no_row inside
          (c.absorb.ensures.shows (record {
            keeps = λ node unmarked. c.moved_by-moved.ensures (numbered_app place) node (omega (arith, under, least, limit)) (ap (λ w. is_marked w node.0) (get_any c.moved_by-moved.result place (2 ^ 64 - 1) 0 (omega (arith, words, under, least, limit))) ∙ unmarked);
            lives = λ still. c.moves_nodes-is_still.ensures.lives (not-true _ still);
            drains = λ still. c.moves_nodes-is_still.ensures.drains (not-true _ still);
            claims = λ alike. sym c.claims.ensures ∙ (c.equal-is_claimed_alike.ensures.0 alike ∙ c.claims-2.ensures);
            nodes = c.nodes_moved-nodes.ensures;
          }) (row ∙ before.left shows place (omega arith) within)) (before.done shows) k lt;
      left = λ shows k le lt. rest_kept numbered_app (row_of table new) items place k c.absorb.new.self no_row le ∙ before.left shows k (omega (arith, le)) lt;
      few = omega (arith, few, once, summed);
      rises = omega (arith, rises, more);
    }

pub returns-clause-all : goal.returns-clause-all
returns-clause-all c = λ shows.
    let table = c.args.config.now in
    let old = c.args.old.now in
    let new = c.args.new.now in
    let at_first : c.self.inside.rows.items ≡ rows_of table old = ap (λ (b : BoardValue). b.rows) c.self.view_is ∙ shows in
    let all = ap length at_first ∙ length_filled numbered_app (row_of table old) (app_count table) in
    let long = c.loop-place.invariant.long in
    let least = c.min-places.ensures in
    let len = c.len.ensures in
    let count = c.apps.ensures.count in
    let end = c.loop-place.auto.place-end in
    let over = c.loop-place-test.false in
    filled_by numbered_app (row_of table new) c.loop-place.self-inside.rows.items (app_count table) no_row (long ∙ all)
    (λ k lt. c.loop-place.invariant.done at_first k (omega (arith, lt, all, least, len, count, end, over)))

pub returns-clause-few : goal.returns-clause-few
returns-clause-few c =
    let table = c.args.config.now in
    let old = c.args.old.now in
    let new = c.args.new.now in
    let few = c.loop-place.invariant.few in
    let least = c.min-places.ensures in
    let count = c.apps.ensures.count in
    let end = c.loop-place.auto.place-end in
    let first = ap (λ (b : BoardValue). b.looked) c.self.view_is in
    let more = more_summed numbered_app (touched_of table old new) c.loop-place.place (app_count table) (omega (arith, least, count, end)) in
    omega (arith, few, more, first)

pub returns-clause-pairs : goal.returns-clause-pairs
returns-clause-pairs c = λ app node. touched_words c.args.config.now c.args.old.now c.args.new.now app node

pub returns-clause-outside : goal.returns-clause-outside
returns-clause-outside c = λ app node. untouched_outside c.args.config.now c.args.old.now c.args.new.now app node

pub returns-clause-shows : goal.returns-clause-shows
returns-clause-shows c = λ shows joined. returns-clause-all c shows
