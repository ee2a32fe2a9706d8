-- The page of a journal's node is the page after its records.
use Rattle.std.proofs.Common.{◌≡◌, ◌+◌, true, List, [], ◌∷◌, ◌++◌, length, map, refl, sym, ap, ◌∙◌, length-append}
use Rattle.dac_sites.specs.laws.Common.{NodeId, Table, NodeValue, ModelNode, shown, model_step, off_after, leaves_state, Record, Beginning, Page, page_of, brought, node_after, page_after}
use Rattle.dac_status.specs.Summaries.{summary_of}
use Rattle.dac_journal.specs.Histories.{IsHistory}
use Rattle.dac_journal.specs.laws.Staying.{state_stays}
use Rattle.dac_journal.specs.Journals.{EndsAt, entry_of}
use Rattle.dac_sites.specs.Paged.{known_in}

brought_is : (t : Table) (me : NodeId) (d final : ModelNode) (rs : List Record) → IsHistory t me d (map entry_of rs) final → final ≡ brought t me d rs
brought_is t me d final [] h = h
brought_is t me d final (r ∷ rs) h = brought_is t me (model_step t me d r.event).node final rs h.1

-- a history leads to only one node
pub ends_after : (o : Beginning) (rs : List Record) (v : NodeValue) → EndsAt o rs v → shown o.table (node_after o rs) ≡ v
ends_after o rs v ends = ap (shown o.table) (sym (brought_is o.table o.node (off_after o.last) ends.final rs ends.history)) ∙ ends.shows

pub page_there : (o : Beginning) (rs : List Record) (v : NodeValue) → EndsAt o rs v → page_of o.table (length rs) v ≡ page_after o rs
page_there o rs v ends = ap (page_of o.table (length rs)) (sym (ends_after o rs v ends))

-- ---- one record more

pub brought_push : (t : Table) (me : NodeId) (d : ModelNode) (rs : List Record) (r : Record) → brought t me d (rs ++ r ∷ []) ≡ (model_step t me (brought t me d rs) r.event).node
brought_push t me d [] r = refl
brought_push t me d (x ∷ rs) r = brought_push t me (model_step t me d x.event).node rs r

last_answer : (t : Table) (me : NodeId) (d final : ModelNode) (rs : List Record) (r : Record) → IsHistory t me d (map entry_of (rs ++ r ∷ [])) final → (model_step t me (brought t me d rs) r.event).answer ≡ r.answer
last_answer t me d final [] r h = h.0
last_answer t me d final (x ∷ rs) r h = last_answer t me (model_step t me d x.event).node final rs r h.1

-- if the last result leaves the state, the page differs from the one before only in its place
pub page_stays : (o : Beginning) (rs : List Record) (r : Record) (v : NodeValue) → EndsAt o (rs ++ r ∷ []) v → leaves_state r.answer ≡ true
    → ◌≡◌ {A = Page} (record { place = length rs + 1; origin = (page_after o rs).origin; summary = (page_after o rs).summary }) (page_after o (rs ++ r ∷ []))
page_stays o rs r v ends leaves =
    let before = node_after o rs in
    let said = last_answer o.table o.node (off_after o.last) ends.final rs r ends.history in
    let stays = state_stays o.table o.node before r.event (ap leaves_state said ∙ leaves) in
    let count : length rs + 1 ≡ length (rs ++ r ∷ []) = sym (length-append rs (r ∷ [])) in
    let alike : ◌≡◌ {A = Page} (record { place = length rs + 1; origin = (page_after o rs).origin; summary = (page_after o rs).summary }) (page_of o.table (length (rs ++ r ∷ [])) (shown o.table (model_step o.table o.node before r.event).node)) =
    λ i. record { place = count i; origin = sym stays.0 i; summary = summary_of o.table (known_in (sym stays.1 i)) } in
    alike ∙ ap (λ d. page_of o.table (length (rs ++ r ∷ [])) (shown o.table d)) (sym (brought_push o.table o.node (off_after o.last) rs r))
