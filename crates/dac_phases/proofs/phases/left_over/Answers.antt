use Rattle.std.proofs.Common.{◌≡◌, All, List, [], Bor, map, take_all, subst}
use Rattle.dac_phases.specs.laws.Common.{Record}
use Rattle.dac_phases.proofs.Parted.{empty_more}
use Rattle.dac_phases.proofs.phases.left_over.Goals as goal

pub loop-i-preserved : goal.loop-i-preserved
loop-i-preserved c =
    empty_more c.args.rests.now c.loop-i.i c.index-rests-i.result c.loop-i-test.true c.index-rests-i.is (c.are_none.ensures c.if-not-are_none.false) c.loop-i.invariant

pub returns : goal.returns
returns c =
    λ _. subst (λ (l : List (Bor (List Record))). All (λ (r : List Record). r ≡ []) (map (λ (r : Bor (List Record)). r.now) l)) (take_all c.loop-i.i c.args.rests.now c.loop-i-test.false) c.loop-i.invariant
