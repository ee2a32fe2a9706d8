use Rattle.std.proofs.Common.{◌≡◌, ◌<◌, ◌+◌, length, get_or, set, None, refl, ap, ◌∙◌, arith, length-set}
use Rattle.std.specs.Prelude.{map as list_map}
use Rattle.dac_config.specs.Table.{node_count}
use Rattle.dac_placement.specs.Placement.{nodes_of}
use Rattle.dac_board.specs.Boards.{spot_of}
use Rattle.dac_board.specs.Touched.{is_touched}
use Rattle.dac_placement.specs.laws.FirstChoice.{numbered}
use Rattle.dac_board.proofs.Filling.{filled_by, filled_at, length_filled, passes, one_more, one_kept, rest_kept, more_passed}
use Rattle.dac_board.proofs.Untouched.{same_spot}
use Rattle.dac_board.proofs.row.look_again.Goals as goal
use Rattle.dac_board.proofs.row.look_again.Goals.{then-is_touched_by, else-is_touched_by}

pub loop-place-init : goal.loop-place-init
loop-place-init c = record {
  long = refl;
  done = λ grown shows k lt. absurd (omega arith);
  left = λ grown shows k le lt. ap (λ l. get_or l k None) shows ∙ filled_at numbered (spot_of c.args.config.now c.args.change.now.old.now c.args.app) (node_count c.args.config.now) k None lt;
  few = omega arith;
  rises = omega arith;
}

pub loop-place-preserved : goal.loop-place-preserved
loop-place-preserved c =
    let table = c.args.config.now in
    let old = c.args.change.now.old.now in
    let new = c.args.change.now.new.now in
    let app = c.args.app in
    let place = c.loop-place.place in
    let items = c.loop-place.spots.items in
    let before = c.loop-place.invariant in
    let under = c.loop-place-test.true in
    let least = c.min-places.ensures in
    let len = c.len.ensures in
    let count = c.nodes.ensures.count in
    let long = before.long in
    let inside : place < length items = omega (arith, under, least, len, long) in
    let within : place < node_count table = omega (arith, under, least, count) in
    elim c.if-is_touched_by.branch [
      | then-is_touched_by w ↦
          let is : c.if-is_touched_by.spots.items ≡ set items place w.look.result = ap (λ v. v.items) w.spots-is in
          let once = w.look.ensures.once in
          let more = w.look.ensures.rises in
          let looked = w.looked-is in
          let few = before.few in
          let rises = before.rises in
          let counted = passes numbered (is_touched table old new app) place (c.is_touched_by.ensures.sound w.if-is_touched_by.true) in
          record {
            long = ap length is ∙ length-set items place w.look.result ∙ long;
            done = λ grown shows k lt. ap (λ l. get_or l k None) is ∙ one_more numbered (spot_of table new app) items place w.look.result None inside w.look.ensures.value (before.done grown shows) k lt;
            left = λ grown shows k le lt. ap (λ l. get_or l k None) is ∙ rest_kept numbered (spot_of table new app) items place k w.look.result None le ∙ before.left grown shows k (omega (arith, le)) lt;
            few = omega (arith, once, looked, few, counted);
            rises = omega (arith, more, looked, rises);
          }
      | else-is_touched_by w ↦
          let is : c.if-is_touched_by.spots.items ≡ items = ap (λ v. v.items) w.spots-is in
          let looked = w.looked-is in
          let few = before.few in
          let rises = before.rises in
          let counted = more_passed numbered (is_touched table old new app) place (place + 1) (omega arith) in
          record {
            long = ap length is ∙ long;
            done = λ grown shows k lt. ap (λ l. get_or l k None) is ∙ one_kept numbered (spot_of table new app) items place None (before.left grown shows place (omega arith) within ∙ same_spot table old new app (numbered place) (c.is_touched_by.ensures.whole grown w.if-is_touched_by.false)) (before.done grown shows) k lt;
            left = λ grown shows k le lt. ap (λ l. get_or l k None) is ∙ before.left grown shows k (omega (arith, le)) lt;
            few = omega (arith, looked, few, counted);
            rises = omega (arith, looked, rises);
          }
    ]

pub returns-clause-long : goal.returns-clause-long
returns-clause-long c = c.loop-place.invariant.long

pub returns-clause-shows : goal.returns-clause-shows
returns-clause-shows c = λ grown shows.
    let table = c.args.config.now in
    let old = c.args.change.now.old.now in
    let new = c.args.change.now.new.now in
    let app = c.args.app in
    let at_first : c.args.spots.now.items ≡ list_map (spot_of table old app) (nodes_of table) = shows in
    let all = ap length at_first ∙ length_filled numbered (spot_of table old app) (node_count table) in
    let long = c.loop-place.invariant.long in
    let least = c.min-places.ensures in
    let len = c.len.ensures in
    let count = c.nodes.ensures.count in
    let end = c.loop-place.auto.place-end in
    let over = c.loop-place-test.false in
    filled_by numbered (spot_of table new app) c.loop-place.spots.items (node_count table) None (long ∙ all)
    (λ k lt. c.loop-place.invariant.done grown at_first k (omega (arith, lt, all, least, len, count, end, over)))

pub returns-clause-few : goal.returns-clause-few
returns-clause-few c =
    let table = c.args.config.now in
    let old = c.args.change.now.old.now in
    let new = c.args.change.now.new.now in
    let app = c.args.app in
    let few = c.loop-place.invariant.few in
    let least = c.min-places.ensures in
    let count = c.nodes.ensures.count in
    let end = c.loop-place.auto.place-end in
    let more = more_passed numbered (is_touched table old new app) c.loop-place.place (node_count table) (omega (arith, least, count, end)) in
    omega (arith, few, more)
