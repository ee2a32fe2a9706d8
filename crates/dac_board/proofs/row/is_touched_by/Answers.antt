use Rattle.std.proofs.Common.{sym, ◌∙◌}
use Rattle.dac_board.proofs.Stays.{untouched_by}
use Rattle.dac_board.proofs.row.is_touched_by.Goals as goal

pub returns-then-not-change-node-clause-whole : goal.returns-then-not-change-node-clause-whole
returns-then-not-change-node-clause-whole c = λ grown _.
    let change = c.args.change.now in
    let node = c.args.node in
    untouched_by c.args.config.now change.old.now change.new.now c.args.app node (grown.keeps node (sym c.is_marked.ensures ∙ c.if-not-is_marked.true)) (grown.nodes node c.requires.few c.if-not-change-node.true)
