use Rattle.std.proofs.Common.{rules, tests, ◌==◌}
use Rattle.dac_live_play.proofs.Common.{map_from_collect, YieldsList-from_slice_split}
use Rattle.dac_live_play.proofs.recording.lines_of.Goals as goal

pub returns : goal.returns
returns c =
    let all = map_from_collect c.collect.result c.collect.ensures.ran (YieldsList-from_slice_split {s = c.split.result} _ (λ b. b == 10) c.args.text.now c.split.ensures.rest c.split.ensures.done c.split.ensures.closure (λ x r q k. search (rules, tests))) in
    rw c.in_ok-lines.was at all
