use Rattle.std.proofs.Common.{◌≡◌, ◌+◌, length, sym, ap, ◌∙◌, arith, true≢false}
use Rattle.dac_live_play.proofs.Common.{node_count}
use Rattle.dac_live_play.proofs.Sayings.{run_length}
use Rattle.dac_live_play.proofs.saying.say_run.Goals as goal
use Rattle.dac_live_play.proofs.saying.say_run.Goals.{then-lines-events-via-then-lines-events, then-lines-events-via-else-lines-events+then-lines-events-2}

pub returns-then-lines-events : goal.returns-then-lines-events
returns-then-lines-events c = (
  λ yes. absurd (true≢false (sym yes)),
  λ same.
      let long : length c.args.lines.now ≡ length c.args.events.now + node_count c.args.config.now = ap length same ∙ run_length c.args.config.now c.args.events.now in
      elim c.then-lines-events.branch [
        | then-lines-events-via-then-lines-events w ↦ absurd (omega (arith, long, w.if-lines-events.true))
        | then-lines-events-via-else-lines-events+then-lines-events-2 w ↦ absurd (omega (arith, long, c.nodes.ensures.count, c.from-nodes.ensures, w.if-lines-events.false, w.if-lines-events-2.true))
      ],
)
