use Rattle.std.proofs.Common.{None, false, true, get_or, sym, ◌∙◌, arith}
use Rattle.dac_status.proofs.Common.{Down}
use Rattle.dac_status.proofs.Running.{runner_is}
use Rattle.dac_status.proofs.Staying.{life_placed, mark_placed}
use Rattle.dac_status.proofs.kept.runner_by.Goals as goal

pub returns-then-runs_by : goal.returns-then-runs_by
returns-then-runs_by c =
    let t = c.args.config.now in
    let s = c.args.state.now in
    let claim = c.in_ok-holder.field-0 in
    let n = claim.origin.node.0 in
    let inside = c.if-holder-nodes.false in
    let count = c.nodes.ensures.count in
    runner_is t s c.args.app claim c.group_of-group.result (get_or c.args.lives.now n None) (get_or c.args.marks.now n Down) true (sym c.in_ok-holder.was ∙ c.requires.claim) c.group_of-group.ensures
    (life_placed t s c.args.app c.args.lives.now n c.requires.lives (omega (arith, inside, count))) (mark_placed t s c.args.app c.args.marks.now n c.requires.marks (omega (arith, inside, count)))
    (sym c.if-runs_by.true ∙ c.runs_by.ensures)

pub returns-else-runs_by : goal.returns-else-runs_by
returns-else-runs_by c =
    let t = c.args.config.now in
    let s = c.args.state.now in
    let claim = c.in_ok-holder.field-0 in
    let n = claim.origin.node.0 in
    let inside = c.if-holder-nodes.false in
    let count = c.nodes.ensures.count in
    runner_is t s c.args.app claim c.group_of-group.result (get_or c.args.lives.now n None) (get_or c.args.marks.now n Down) false (sym c.in_ok-holder.was ∙ c.requires.claim) c.group_of-group.ensures
    (life_placed t s c.args.app c.args.lives.now n c.requires.lives (omega (arith, inside, count))) (mark_placed t s c.args.app c.args.marks.now n c.requires.marks (omega (arith, inside, count)))
    (sym c.if-runs_by.false ∙ c.runs_by.ensures)
