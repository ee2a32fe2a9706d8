use Rattle.std.proofs.Common.{◌≡◌, [], ◌∷◌, sym, ap, subst, ◌∙◌, arith}
use Rattle.dac_node.proofs.Common.{arc_value, Operation, join, bottom, meaning_of, KnowsOwnBoot, up}
use Rattle.dac_node.proofs.Knows.{knows-boot}
use Rattle.dac_node.proofs.running.Running.new.Goals as goal

pub invariant_of-running : goal.invariant_of-running
invariant_of-running c =
    let delta : c.in_ok-delta.delta ≡ meaning_of (up c.args.origin ∷ []) = c.in_ok-delta.ensures ∙ ap (λ (o : Operation). meaning_of (o ∷ [])) c.up_of-operation.ensures in
    let state : arc_value c.in_ok-state.state ≡ join bottom (meaning_of (up c.args.origin ∷ [])) = c.in_ok-state.ensures.ok ∙ c.in_ok-joined.ensures ∙ (λ i. join (c.bottom.ensures i) (delta i)) in
    (record { knows = subst (KnowsOwnBoot c.args.origin) (sym state) (knows-boot c.args.origin); order = omega arith }, λ _. ap (λ shown. shown.0) c.in_ok-shown.ensures)
