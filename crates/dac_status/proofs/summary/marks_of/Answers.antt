use Rattle.std.proofs.Common.{false, None, get_or, set, refl, sym, ap, ◌∙◌, arith}
use Rattle.dac_status.proofs.Common.{MAX_NODES, node_count, Down, drains_live, live_in, mark_at, mark_of}
use Rattle.std.specs.FinMap as finmap
use Rattle.dac_status.specs.Summaries.{drains}
use Rattle.dac_status.proofs.Passing.{before_next_app}
use Rattle.dac_status.proofs.Places.{node_numbered, placed_at, placed_none, placed_more}
use Rattle.dac_status.proofs.summary.marks_of.Goals as goal

pub loop-number-init : goal.loop-number-init
loop-number-init c = record {
  marks = placed_none MAX_NODES Down node_numbered (mark_of c.args.config.now c.args.walk.now.state c.args.app);
  state = refl;
  before = c.requires.before;
}

pub mark_by-requires-clause-drained : goal.mark_by-requires-clause-drained
mark_by-requires-clause-drained c =
    let s = c.args.walk.now.state in
    let n = c.loop-number.number in
    let life = ap (λ lives. get_or lives n None) c.requires.lives ∙ placed_at MAX_NODES None node_numbered (finmap.get s.lives) (node_count c.args.config.now) n (omega arith) in
    ap (λ drained. get_or drained n false) c.requires.drained
    ∙ placed_at MAX_NODES false node_numbered (drains_live s) (node_count c.args.config.now) n (omega arith)
    ∙ ap (λ life. drains s (node_numbered n) (live_in life)) (sym life)
    ∙ ap (λ t. drains t (node_numbered n) (live_in (get_or c.args.lives.now n None))) (sym c.loop-number.invariant.state)

pub loop-number-preserved : goal.loop-number-preserved
loop-number-preserved c =
    let s = c.args.walk.now.state in
    let n = c.loop-number.number in
    let life = ap (λ lives. get_or lives n None) c.requires.lives ∙ placed_at MAX_NODES None node_numbered (finmap.get s.lives) (node_count c.args.config.now) n (omega arith) in
    record {
      marks =
          ap (λ mark. set c.loop-number.marks n mark) (c.mark_by.ensures.value ∙ ap (λ t. mark_at c.args.config.now t c.args.app (node_numbered n) (live_in (get_or c.args.lives.now n None))) c.loop-number.invariant.state ∙ ap (λ life. mark_at c.args.config.now s c.args.app (node_numbered n) (live_in life)) life)
          ∙ placed_more MAX_NODES Down node_numbered (mark_of c.args.config.now s c.args.app) n c.loop-number.marks (omega arith) c.loop-number.invariant.marks;
      state = c.mark_by.ensures.state ∙ c.loop-number.invariant.state;
      before = c.mark_by.ensures.before;
    }

pub returns-clause-before : goal.returns-clause-before
returns-clause-before c = before_next_app c.args.app.0 c.loop-number.number c.loop-number.walk c.loop-number.invariant.before
