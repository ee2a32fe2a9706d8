-- The page after some records, and a journal with its page.
use Rattle.std.specs.Prelude.{ℕ, List, [], ◌∷◌, length, Option, None, Some, refl}
use Rattle.std.specs.Coded.{Coded, code_by, coded×}
use Rattle.dac_base.specs.declared.NodeId.{NodeId}
use Rattle.dac_config.specs.Table.{Table}
use Rattle.dac_state.specs.StateValue.{StateValue, bottom}
use Rattle.dac_status.specs.Summaries.{summary_of}
use Rattle.dac_journal.specs.NodeValue.{NodeValue, origin_of, state_of}
use Rattle.dac_journal.specs.ModelNode.{ModelNode, shown}
use Rattle.dac_journal.specs.Step.{model_step}
use Rattle.dac_journal.specs.Histories.{off_after}
use Rattle.dac_journal.specs.declared.record.Record.{Record}
use Rattle.dac_journal.specs.Journals.{Beginning, JournalValue}
use Rattle.dac_pages.specs.declared.page.Page.{Page}

-- the state, or the bottom state if there is none
abbrev pub known_in : Option StateValue → StateValue
known_in None = bottom
known_in (Some s) = s

-- the page of a node: the number of records, the incarnation, and a summary of the state
abbrev pub page_of : Table → ℕ → NodeValue → Page
page_of t place v = record { place = place; origin = origin_of v; summary = summary_of t (known_in (state_of v)) }

-- the model node after the events of these records
abbrev pub brought : Table → NodeId → ModelNode → List Record → ModelNode
brought t me d [] = d
brought t me d (r ∷ rs) = brought t me (model_step t me d r.event).node rs

-- the node after these records, from the beginning of a journal
abbrev pub node_after : Beginning → List Record → ModelNode
node_after o rs = brought o.table o.node (off_after o.last) rs

-- the page after these records
abbrev pub page_after : Beginning → List Record → Page
page_after o rs = page_of o.table (length rs) (shown o.table (node_after o rs))

-- a journal, and its published page
pub record PagedJournalValue : Type 0 where
  pub journal : JournalValue
  pub page : Page

abbrev pub coded_paged_journal : Coded JournalValue → Coded Page → Coded PagedJournalValue
coded_paged_journal journal page = code_by (JournalValue × Page) (coded× journal page) (λ d. (d.journal, d.page))
    (λ p. record { journal = p.0; page = p.1 }) (λ _. refl)
