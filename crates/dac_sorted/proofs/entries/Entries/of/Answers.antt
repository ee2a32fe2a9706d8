use Rattle.std.proofs.Common.{◌∙◌, arith, sym}
use Rattle.std.specs.Arc.{arc_value}
use Rattle.dac_sorted.proofs.EntryLemmas.{at_block, nil_of, past_block, past_blocks, some_here}
use Rattle.dac_sorted.proofs.entries.Entries.of.Goals as goal

pub loop-block-preserved : goal.loop-block-preserved
loop-block-preserved g c =
    past_block arc_value c.loop-block.rest.now c.in-Some.others.now c.in-Some.block.now c.args.last.now _ c.in-Some.ensures.cases.0
    (nil_of c.entries-here.result.now _ (sym (c.entries-here.ensures ∙ c.deref.ensures)) (sym c.is_empty.ensures ∙ c.if-not-is_empty.false)) c.loop-block.invariant

pub loop-block-smaller : goal.loop-block-smaller
loop-block-smaller g c = let shorter = c.in-Some.ensures.cases.1 in omega (arith, shorter)

pub invariant_of-result : goal.invariant_of-result
invariant_of-result g c none = some_here c.entries-here.result.now _ (sym c.is_empty.ensures ∙ c.if-not-is_empty.true) none

pub returns-then-not-is_empty : goal.returns-then-not-is_empty
returns-then-not-is_empty g c =
    at_block arc_value c.loop-block.rest.now c.in-Some.others.now c.in-Some.block.now c.entries-here.result.now c.args.last.now _ c.in-Some.ensures.cases.0 (c.entries-here.ensures ∙ c.deref.ensures) c.loop-block.invariant

pub returns : goal.returns
returns g c = past_blocks arc_value c.loop-block.rest.now c.args.last.now _ c.in_default.ensures.cases c.loop-block.invariant
