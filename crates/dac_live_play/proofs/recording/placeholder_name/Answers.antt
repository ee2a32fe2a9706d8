use Rattle.std.proofs.Common.{◌++◌, ◌∷◌, [], replicate, codes, sym, ap, subst, ◌∙◌, arith, true≢false, below_more, append_assoc}
use Rattle.dac_live_play.proofs.Common.{unknown_name, IsUnused}
use Rattle.std.proofs.lemmas.List.{replicate_more}
use Rattle.dac_live_play.proofs.recording.placeholder_name.Goals as goal

pub returns-then-is_unused : goal.returns-then-is_unused
returns-then-is_unused c = record {
  count = c.loop-underscores._underscores;
  name_is = c.loop-underscores.invariant.name;
  few = omega (arith, c.loop-underscores-test.true);
  first = c.loop-underscores.invariant.first;
  unused = λ _. subst (IsUnused c.args.config.now) c.deref.ensures.value (c.is_unused.ensures.0 c.if-is_unused.true);
}

pub loop-underscores-preserved : goal.loop-underscores-preserved
loop-underscores-preserved c =
    let count = c.loop-underscores._underscores in
    let table = c.args.config.now in
    record {
      name =
          c.in_ok-push.ensures.items ∙ ap (λ l. l ++ 95 ∷ []) c.loop-underscores.invariant.name
          ∙ append_assoc (codes "unknown") (replicate count 95) (95 ∷ []) ∙ ap (λ l. codes "unknown" ++ l) (replicate_more count 95);
      first = below_more (λ fewer. IsUnused table (unknown_name fewer) → ⊥) count c.loop-underscores.invariant.first
          (λ unused. true≢false
          (sym (c.is_unused.ensures.1 (subst (IsUnused table) (sym (c.deref.ensures.value ∙ c.loop-underscores.invariant.name)) unused)) ∙ c.if-is_unused.false));
    }

pub returns : goal.returns
returns c = record {
  count = c.loop-underscores._underscores;
  name_is = c.loop-underscores.invariant.name;
  few = omega (arith, c.loop-underscores.auto);
  first = c.loop-underscores.invariant.first;
  unused = λ less. absurd (omega (arith, less, c.loop-underscores-test.false));
}
