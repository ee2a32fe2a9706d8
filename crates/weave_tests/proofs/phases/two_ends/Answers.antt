use Rattle.std.proofs.Common.{ℕ, length, List, [], ◌∷◌, ◌++◌, sym, ap, subst, ◌∙◌, arith}
use Rattle.std.proofs.lemmas.List.{take_all}
use Rattle.std.specs.Global.{Vec}
use Rattle.dac_weave.specs.Cut.{lengths_of, rows_of, AreEnds}
use Rattle.weave_tests.proofs.Ends.{two_ends, more_below, more_lengths}
use Rattle.weave_tests.proofs.phases.two_ends.Goals as goal

pub loop-i-preserved : goal.loop-i-preserved
loop-i-preserved c = record {
  below = more_below c.loop-i.early.items c.loop-i.whole.items c.push.new.self.items c.push-in-loop-i.new.self.items _ _ c.loop-i.invariant.below (omega arith) c.in_ok-push.ensures.items c.in_ok-push-2.ensures.items;
  lengths = more_lengths c.args.journals.now c.loop-i.i c.index-journals-i.result c.loop-i.whole.items c.push-in-loop-i.new.self.items _ c.loop-i.invariant.lengths c.loop-i-test.true c.index-journals-i.is
      (ap (λ rs. length rs) c.records-count.ensures.value) c.in_ok-push-2.ensures.items;
}

pub returns : goal.returns
returns c =
    let rows = c.in_ok-push-4.ensures.items ∙ ap (λ (ends : List (Vec ℕ)). ends ++ c.loop-i.whole ∷ []) (c.in_ok-push-3.ensures.items ∙ ap (λ (ends : List (Vec ℕ)). ends ++ c.loop-i.early ∷ []) c.new-ends.ensures.items) in
    subst (λ (ends : List (Vec ℕ)). AreEnds c.args.journals.now (rows_of ends)) (sym rows)
    (two_ends c.args.journals.now c.loop-i.early.items c.loop-i.whole.items c.loop-i.invariant.below (c.loop-i.invariant.lengths ∙ ap lengths_of (take_all c.loop-i.i c.args.journals.now (omega arith))))
