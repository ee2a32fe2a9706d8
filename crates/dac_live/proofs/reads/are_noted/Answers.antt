use Rattle.std.proofs.Common.{◌≡◌, List, Option, length, arith}
use Rattle.dac_live.proofs.Common.{Page, Phase, all_zip_next}
use Rattle.dac_live.proofs.reads.are_noted.Goals as goal

pub loop-i-preserved : goal.loop-i-preserved
loop-i-preserved c =
    all_zip_next (λ (p : Phase) (noted : List (Option Page)). length noted ≡ length p.lines.items) c.args.phases.now c.args.reads.now c.loop-i.i c.index-phases-i.result c.index-reads-i.result
    c.loop-i-test.true (omega arith) c.index-phases-i.is c.index-reads-i.is c.loop-i.invariant (c.is_noted.ensures c.if-not-is_noted.false)
