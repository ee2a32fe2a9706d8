use Rattle.std.proofs.Common.{◌≡◌, ◌+◌, ◌<◌, ◌++◌, ℕ, List, length, take, drop, get_or, sym, ap, subst, ◌∙◌, append-nil, arith}
use Rattle.dac_live_play.proofs.Common.{WorldEvent}
use Rattle.std.specs.Prelude.{zip}
use Rattle.std.proofs.lemmas.List.{length-append}
use Rattle.dac_live_play.specs.Recordings.{phase_text, phases_text, PhasesFit, IsLastOf}
use Rattle.dac_live_play.proofs.Phased.{end-first, end-next, put_phase_more, part_long, last_none, last_now, last_still}
use Rattle.dac_live_play.proofs.recording.put_phases.Goals as goal
use Rattle.dac_live_play.proofs.recording.put_phases.Goals.{then-saturating_add-le-MAX_INPUT, else-saturating_add-le-MAX_INPUT}

pub loop-before-init : goal.loop-before-init
loop-before-init c = record {
  text = sym (append-nil c.args.text.now.items);
  start = sym (end-first 0);
  fit = last_none (PhasesFit c.args.config.now c.args.placeholder.now c.args.run.now c.args.text.now.items c.args.pages.now);
}

pub put_phase-requires : goal.put_phase-requires
put_phase-requires c =
    let run = c.args.run.now in
    let start = c.loop-before.start in
    let bound = get_or c.as_slice-bounds.result.now c.loop-before.before 0 in
    ap length (c.part_of-own.ensures ∙ ap (λ (s : List ℕ). drop start (take bound s)) c.as_slice-seats.ensures.value) ∙ part_long start bound run.seats.items run.events.items c.requires
    ∙ sym (ap length (c.part_of-told.ensures ∙ ap (λ (e : List WorldEvent). drop start (take bound e)) c.as_slice-events.ensures.value))

pub loop-before-preserved : goal.loop-before-preserved
loop-before-preserved c =
    let table = c.args.config.now in
    let placeholder = c.args.placeholder.now in
    let run = c.args.run.now in
    let first = c.args.text.now.items in
    let pages = c.args.pages.now in
    let i = c.loop-before.before in
    let start = c.loop-before.start in
    let bounds = c.as_slice-bounds.result.now in
    let bound = get_or bounds i 0 in
    let bound_is : bound ≡ get_or run.bounds.items i 0 = ap (λ (bs : List ℕ). get_or bs i 0) c.as_slice-bounds.ensures.value in
    let lt : i < length run.bounds.items = omega (arith, c.loop-before-test.true, ap length c.as_slice-bounds.ensures.value) in
    let told : c.part_of-told.result.now ≡ drop start (take bound run.events.items) = c.part_of-told.ensures ∙ ap (λ (e : List WorldEvent). drop start (take bound e)) c.as_slice-events.ensures.value in
    let own : c.part_of-own.result.now ≡ drop start (take bound run.seats.items) = c.part_of-own.ensures ∙ ap (λ (s : List ℕ). drop start (take bound s)) c.as_slice-seats.ensures.value in
    let more : c.put_phase.new.text.items ≡ first ++ phases_text table placeholder run (i + 1) =
    put_phase_more table placeholder run i start bound first c.loop-before.text.items c.put_phase.new.text.items lt c.loop-before.invariant.start bound_is c.loop-before.invariant.text
    (c.in_ok-put_phase.ensures ∙ (λ k. c.loop-before.text.items ++ phase_text table placeholder (i + 1) (zip (told k) (own k)))) in
    let size : length ((first ++ phases_text table placeholder run (i + 1)) ++ pages) ≡ length c.put_phase.new.text.items + length pages =
    length-append (first ++ phases_text table placeholder run (i + 1)) pages ∙ ap (λ (t : List ℕ). length t + length pages) (sym more) in
    let Has = PhasesFit table placeholder run first pages in
    record {
      text = more;
      start = bound_is ∙ sym (end-next run.bounds.items i lt);
      fit = elim c.if-saturating_add-le-MAX_INPUT.branch [
        | then-saturating_add-le-MAX_INPUT w ↦ subst (IsLastOf Has (i + 1)) (sym w.fit-is) (last_now Has i (omega (arith, size, w.if-saturating_add-le-MAX_INPUT.true, c.saturating_add.ensures, c.len.ensures)))
        | else-saturating_add-le-MAX_INPUT w ↦ subst (IsLastOf Has (i + 1)) (sym w.fit-is)
            (last_still Has i c.loop-before.fit (λ few. omega (arith, size, few, w.if-saturating_add-le-MAX_INPUT.false, c.saturating_add.ensures, c.len.ensures)) c.loop-before.invariant.fit)
      ];
    }
