-- A journal grows by one record.
use Rattle.std.proofs.Common.{◌≡◌, ℕ, List, [], ◌∷◌, ◌++◌, map, Result, refl, sym, ap, subst, ◌∙◌}
use Rattle.dac_messages.specs.declared.reply.Reply.{Reply}
use Rattle.dac_messages.specs.declared.event.Event.{Event}
use Rattle.dac_events.specs.declared.refusal.Refusal.{Refusal}
use Rattle.dac_base.specs.declared.NodeId.{NodeId}
use Rattle.dac_config.specs.Table.{Table}
use Rattle.dac_model_world.specs.NodeValue.{NodeValue}
use Rattle.dac_model_world.specs.ModelNode.{ModelNode, shown}
use Rattle.dac_model_world.specs.Step.{Steps, model_step}
use Rattle.dac_model_world.specs.Histories.{Entry, IsHistory, off_after}
use Rattle.dac_model_world.specs.laws.Histories.{IsHistory-push}
use Rattle.dac_journal.specs.declared.record.Record.{Record}
use Rattle.dac_journal.specs.Journals.{Beginning, entry_of, record_of, EndsAt, AreHistory}

entries_push : (rs : List Record) (r : Record) → map entry_of (rs ++ r ∷ []) ≡ map entry_of rs ++ entry_of r ∷ []
entries_push [] r = refl
entries_push (x ∷ rs) r = ap (λ l. entry_of x ∷ l) (entries_push rs r)

-- recording a step of the program's node leads from the end of a journal to its next end
pub goes_on : (o : Beginning) (rs : List Record) (old new : NodeValue) (seat : ℕ) (event : Event) (answer : Result Reply Refusal) → EndsAt o rs old → Steps o.table o.node old event new answer
    → EndsAt o (rs ++ record_of seat event answer ∷ []) new
goes_on o rs old new seat event answer ends step =
    let by = step.by ends.final ends.shows in
    record {
      final = (model_step o.table o.node ends.final event).node;
      history = subst (λ (es : List Entry). IsHistory o.table o.node (off_after o.last) es (model_step o.table o.node ends.final event).node) (sym (entries_push rs (record_of seat event answer)))
          (IsHistory-push o.table o.node (off_after o.last) (map entry_of rs) ends.final (entry_of (record_of seat event answer)) ends.history by.1);
      shows = by.0;
    }

-- a journal that ends at a node is a history
pub is_history : (o : Beginning) (rs : List Record) (v : NodeValue) → EndsAt o rs v → AreHistory o rs
is_history o rs v ends = record { final = ends.final; history = ends.history }

-- a history leads to only one model node, which shows as only one node of the program
histories_alike : (t : Table) (me : NodeId) (d x y : ModelNode) (es : List Entry) → IsHistory t me d es x → IsHistory t me d es y → x ≡ y
histories_alike t me d x y [] h k = h ∙ sym k
histories_alike t me d x y (e ∷ es) h k = histories_alike t me (model_step t me d e.event).node x y es h.1 k.1

pub ends_alike : (o : Beginning) (rs : List Record) (v w : NodeValue) → EndsAt o rs v → EndsAt o rs w → v ≡ w
ends_alike o rs v w a b = sym a.shows ∙ (ap (shown o.table) (histories_alike o.table o.node (off_after o.last) a.final b.final (map entry_of rs) a.history b.history) ∙ b.shows)
