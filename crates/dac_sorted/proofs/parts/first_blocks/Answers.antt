use Rattle.std.proofs.Common.{◌≡◌, ◌++◌, ◌+◌, ◌-◌, ◌<◌, ◌≤◌, ◌∙◌, ap, arith, drop, length, length-drop, length-take-le, subst, sym, take}
use Rattle.std.specs.Arc.{arc_value}
use Rattle.std.proofs.Math.Seq.{take-add}
use Rattle.dac_sorted.proofs.PartLemmas.{one_filled, one_sealed}
use Rattle.dac_sorted.proofs.parts.first_blocks.Goals as goal

pub loop-count-preserved : goal.loop-count-preserved
loop-count-preserved g c =
    let entries = c.args.entries.now in
    let made = c.loop-count.made.items in
    let block = c.in_ok-of.field-0 in
    let count = c.loop-count.count in
    let least = c.least-least.result in
    let some = c.least-least.ensures.0 in
    let within = c.loop-count.invariant.1 in
    let more = c.loop-count-test.true in
    let cut : (count + least) - count ≡ least = omega arith in
    let here : arc_value block ≡ take least (drop count entries) = c.in_ok-of.ensures ∙ c.in_ok-own.ensures ∙ ap (λ n. take n (drop count entries)) cut in
    let long : count + least ≤ length entries = omega (arith, within, more, some) in
    let left : length (drop count entries) ≡ length entries - count = length-drop count entries in
    let size : length (take least (drop count entries)) ≡ least = length-take-le least (drop count entries) (omega (arith, long, left)) in (
      one_filled arc_value made c.push.new.self.items block c.loop-count.invariant.0 c.in_ok-push.ensures.items (subst (λ es. 0 < length es) (sym here) (omega (arith, size, some))),
      long,
      one_sealed arc_value made c.push.new.self.items block (take least (drop count entries)) c.in_ok-push.ensures.items here
          ∙ ap (λ l. l ++ take least (drop count entries)) c.loop-count.invariant.2
          ∙ sym (take-add count least entries),
    )
