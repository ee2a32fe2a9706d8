use Rattle.std.proofs.Common.{◌≡◌, ◌+◌, ◌++◌, ◌∷◌, [], length, refl, ap, ◌∙◌, subst, rules}
use Rattle.dac_model_world.specs.NodeValue.{NodeValue}
use Rattle.dac_journal.specs.Journals.{JournalValue, EndsAt, call_of, record_of, beginning_of}
use Rattle.dac_journal.specs.Going.{FitsBy, GoesOnBy, node_by}
use Rattle.dac_journal.specs.laws.Going.{ends_alike, goes_on}
use Rattle.dac_journal.proofs.journal.Journal.prepare_next.Goals as goal

pub returns-clause-goes : goal.returns-clause-goes
returns-clause-goes c =
    let old = c.self.inside in
    let o = beginning_of old.config old.me old.last in
    let change = c.in_ok-change.change in
    let answer = c.in_ok-change.answer in
    let entry = record_of c.args.seat c.args.event answer in
    let len : c.len.result ≡ length old.records.items = search rules in
    let place : c.len.result + 1 ≡ length c.args.self.now.records + 1 = ap (λ n. n + 1) len ∙ ap (λ (j : JournalValue). length j.records + 1) c.self.view_is in
    let kept : c.in_ok-kept.kept ≡ c.args.event = c.in_ok-kept.ensures in
    let ends = c.self.invariant.0 in
    let goes : GoesOnBy o old.records.items entry change =
    λ v there. subst (λ (w : NodeValue). FitsBy change w × EndsAt o (old.records.items ++ entry ∷ []) (node_by change w)) (ends_alike o old.records.items old.node v ends there) (c.in_ok-change.ensures.fits, goes_on o old.records.items old.node (node_by change old.node) c.args.seat c.args.event answer ends c.in_ok-change.ensures.steps) in
    record {
      entry = refl;
      call = λ i. call_of (place i) (kept i) (c.in_ok-change.ensures.same.0 i);
      goes = subst (λ (j : JournalValue). GoesOnBy j.beginning j.records entry change) c.self.view_is goes;
    }
