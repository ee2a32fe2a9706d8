use Rattle.std.proofs.Common.{take, drop, ap, ◌∙◌}
use Rattle.std.proofs.lemmas.List.{take_min, drop_min}
use Rattle.dac_live_play.proofs.recording.part_of.Goals as goal

pub returns : goal.returns
returns g c =
    let front = c.split_at.result.0.now in
    c.split_at-2.ensures.back ∙ ap (λ n. drop n front) c.min-2.ensures ∙ drop_min c.args.start front
    ∙ ap (drop c.args.start) (c.split_at.ensures.front ∙ ap (λ n. take n c.args.items.now) c.min.ensures ∙ take_min c.args.bound c.args.items.now)
