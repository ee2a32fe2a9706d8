use Rattle.std.proofs.Common.{◌<◌, rules, arith, get_or, map, sym, ap, ◌∙◌, true≢false}
use Rattle.dac_live_play.proofs.Common.{range_with_len, length-map-range_with_len, node_count}
use Rattle.std.proofs.lemmas.List.FromFn.{get_or-map-range_with_len}
use Rattle.dac_script.specs.declared.line.ScriptLine.TheVariants as says
use Rattle.dac_live_play.proofs.Lines.{numbered}
use Rattle.dac_live_play.proofs.Sayings.{say_next, say_here}
use Rattle.dac_live_play.proofs.saying.say_pages.Goals as goal

pub loop-number-preserved : goal.loop-number-preserved
loop-number-preserved c =
    say_next says.Page numbered c.args.lines.now c.loop-number.number c.index-lines-from.result c.index-lines-from.result (search rules)
    (sym (c.index-lines-from.is ∙ ap (λ i. get_or c.args.lines.now i c.index-lines-from.result) c.from.ensures)) (c.says_page.ensures.0 c.if-not-says_page.false) c.loop-number.invariant

pub returns-then-not-says_page : goal.returns-then-not-says_page
returns-then-not-says_page c =
    let count = node_count c.args.config.now in
    let nodes = map numbered (range_with_len 0 count) in
    let i = c.loop-number.number in
    let within : i < count = search rules in (
      λ yes. absurd (true≢false (sym yes)),
      λ same. absurd (true≢false (sym (c.says_page.ensures.1
          (say_here says.Page nodes c.args.lines.now i (numbered i) c.index-lines-from.result (omega (arith, within, length-map-range_with_len numbered 0 count))
          (sym (get_or-map-range_with_len numbered 0 count i i (numbered i) within (omega arith)))
          (c.index-lines-from.is ∙ ap (λ k. get_or c.args.lines.now k c.index-lines-from.result) c.from.ensures) same)) ∙ c.if-not-says_page.true)),
    )
