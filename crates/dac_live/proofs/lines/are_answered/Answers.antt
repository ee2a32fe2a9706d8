use Rattle.std.proofs.Common.{List, subst, arith}
use Rattle.dac_live.proofs.Common.{Line, Phase, LineAnswer, LinesAnswered, all_zip_next}
use Rattle.dac_live.proofs.lines.are_answered.Goals as goal

pub loop-i-preserved : goal.loop-i-preserved
loop-i-preserved c =
    let lines : List Line → Type 0 = λ v. LinesAnswered v c.index-answers-i.result in
    let answers : List LineAnswer → Type 0 = λ w. LinesAnswered c.as_slice.result.now w in
    let here = subst lines c.as_slice.ensures.value (subst answers c.as_slice-in-loop-i.ensures (c.lines_answered.ensures c.if-not-lines_answered.false)) in
    all_zip_next (λ (p : Phase) (all : List LineAnswer). LinesAnswered p.lines.items all) c.args.phases.now c.args.answers.now c.loop-i.i c.index-phases-i.result c.index-answers-i.result
    c.loop-i-test.true (omega arith) c.index-phases-i.is c.index-answers-i.is c.loop-i.invariant here
