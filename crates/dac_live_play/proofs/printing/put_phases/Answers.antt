use Rattle.std.proofs.Common.{◌≡◌, ◌+◌, ◌<◌, ◌++◌, length, map, sym, ap, ◌∙◌, arith}
use Rattle.dac_live_play.proofs.Common.{length-map, phase_text}
use Rattle.dac_live.specs.Phase.{Phase}
use Rattle.dac_live_play.proofs.Asking.{at_map, as_many, asks_at}
use Rattle.dac_live_play.proofs.Placing.{put_place, all_placed}
use Rattle.dac_live_play.proofs.printing.put_phases.Goals as goal

pub phase_lines-requires-clause-lines : goal.phase_lines-requires-clause-lines
phase_lines-requires-clause-lines c =
    let parts = map (λ part. part.now) c.args.parts.now in
    let many : length c.args.phases.now ≡ length parts = as_many c.args.phases.now parts c.requires in
    let long : length parts ≡ length c.args.parts.now = length-map c.args.parts.now (λ part. part.now) in
    let in_phases : c.loop-place.place < length c.args.phases.now = omega (arith, c.min-place-end.ensures, c.loop-place-test.true) in
    c.deref.ensures.value ∙ ap (λ (p : Phase). p.lines.items) (sym c.index-phases-place.is) ∙ asks_at c.args.phases.now parts c.loop-place.place c.index-phases-place.result c.index-parts-place.result.now c.requires in_phases c.index-phases-place.is
    (at_map (λ part. part.now) c.args.parts.now c.loop-place.place c.index-parts-place.result (omega (arith, in_phases, many, long)) c.index-parts-place.is)

pub loop-place-preserved : goal.loop-place-preserved
loop-place-preserved c =
    let parts = map (λ part. part.now) c.args.parts.now in
    let answers = c.args.answers.now in
    let many : length c.args.phases.now ≡ length parts = as_many c.args.phases.now parts c.requires in
    let long : length parts ≡ length c.args.parts.now = length-map c.args.parts.now (λ part. part.now) in
    let in_phases : c.loop-place.place < length c.args.phases.now = omega (arith, c.min-place-end.ensures, c.loop-place-test.true) in
    let in_answers : c.loop-place.place < length answers = omega (arith, c.min-place-end.ensures, c.loop-place-test.true) in
    put_place (λ place part told. phase_text c.args.config.now (place + 1) part told) parts answers c.loop-place.place c.index-parts-place.result.now c.index-answers-place.result _ c.loop-place.text.items _
    (omega (arith, in_phases, many)) in_answers
    (at_map (λ part. part.now) c.args.parts.now c.loop-place.place c.index-parts-place.result (omega (arith, in_phases, many, long)) c.index-parts-place.is)
    c.index-answers-place.is
    c.loop-place.invariant
    (c.in_ok-extend_from_slice.ensures.items ∙ ap (λ lines. c.loop-place.text.items ++ lines)
    (c.deref-in-loop-place.ensures.value ∙ c.in_ok-lines.ensures ∙ ap (phase_text c.args.config.now (c.loop-place.place + 1) c.index-parts-place.result.now) c.as_slice-told.ensures))

pub returns : goal.returns
returns c =
    let parts = map (λ part. part.now) c.args.parts.now in
    let answers = c.args.answers.now in
    let many : length c.args.phases.now ≡ length parts = as_many c.args.phases.now parts c.requires in
    all_placed (λ place part told. phase_text c.args.config.now (place + 1) part told) parts answers c.loop-place.place _ c.loop-place.text.items
    (omega (arith, c.min-place-end.ensures, c.loop-place-test.false, many)) c.loop-place.invariant
