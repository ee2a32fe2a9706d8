use Rattle.std.proofs.Common.{◌≡◌, ◌<◌, ◌+◌, ◌++◌, ◌∷◌, [], List, length, sym, ap, ◌∙◌, subst, arith, rules, length-append}
use Rattle.dac_model_world.specs.NodeValue.{NodeValue}
use Rattle.dac_journal.specs.declared.record.Record.{Record}
use Rattle.dac_journal.specs.Journals.{JournalValue, EndsAt, beginning_of}
use Rattle.dac_journal.specs.Going.{GoesOnBy, node_by}
use Rattle.dac_journal.specs.laws.Going.{is_history}
use Rattle.dac_journal.proofs.journal.Journal.commit.Goals as goal

pub invariant_of-self-2 : goal.invariant_of-self-2
invariant_of-self-2 c =
    let old = c.self.inside in
    let o = beginning_of old.config old.me old.last in
    let kept : c.reserve.new.self.items ≡ old.records.items = search rules in
    let now : c.push_reserved.new.self.items ≡ old.records.items ++ c.args.next.entry ∷ [] = c.push_reserved.ensures.items ∙ (λ i. kept i ++ (c.into_parts-entry.ensures i).0 ∷ []) in
    let len : length c.push_reserved.new.self.items ≡ length old.records.items + 1 = ap length now ∙ length-append old.records.items (c.args.next.entry ∷ []) in
    let room : length old.records.items < 65536 = subst (λ (j : JournalValue). length j.records < 65536) (sym c.self.view_is) c.requires.room in
    let goes : GoesOnBy o old.records.items c.args.next.entry c.args.next.change =
    subst (λ (j : JournalValue). GoesOnBy j.beginning j.records c.args.next.entry c.args.next.change) (sym c.self.view_is) c.requires.follows in
    let after : c.apply_change.new.node ≡ node_by c.args.next.change old.node = c.in_ok-apply_change.ensures.ok ∙ (λ i. node_by (c.into_parts-entry.ensures i).3 old.node) in (
      subst (λ (x : List Record × NodeValue). EndsAt o x.0 x.1) (λ i. (sym now i, sym after i)) (goes old.node c.self.invariant.0).1,
      omega (arith, len, room),
    )

pub returns-clause-history : goal.returns-clause-history
returns-clause-history c = is_history _ _ _ (invariant_of-self-2 c).0
