use Rattle.std.proofs.Common.{rules, tests}
use Rattle.dac_live_play.proofs.Common.{map_from_collect, YieldsList-from_slice_split}
use Rattle.dac_live_play.specs.Phases.{ends_phase}
use Rattle.dac_live_play.proofs.phases.parts_of.Goals as goal

pub returns : goal.returns
returns c =
    let all = map_from_collect c.collect.result c.collect.ensures.ran (YieldsList-from_slice_split {s = c.split.result} _ ends_phase c.args.script.now c.split.ensures.rest c.split.ensures.done c.split.ensures.closure (λ x r q k. search (rules, tests))) in
    rw c.in_ok-parts.was at all
