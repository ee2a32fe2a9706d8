-- The journals and the final pages of all nodes.
use Rattle.std.specs.Prelude.{◌≡◌, ◌<◌, ℕ, List, [], length, map, slice_index_or}
use Rattle.dac_config.specs.Table.{Table}
use Rattle.dac_crews.specs.Journals.{JournalValue, nowhere, beginning_of, AreHistory}
use Rattle.dac_crews.specs.Paged.{page_after}
use Rattle.dac_pages.specs.declared.page.Page.{Page}

-- the journal at this place
abbrev pub journal_at : List JournalValue → ℕ → JournalValue
journal_at all i = slice_index_or all i (record { beginning = nowhere; records = [] })

-- a journal of this node, from before its first boot
pub record IsFirstOf (node : ℕ) (j : JournalValue) : Type 0 where
  pub named : j.beginning.node.0 ≡ node
  pub first : j.beginning.last ≡ 0

-- the journals of this many nodes, in order of name
pub record AreNodes (nodes : ℕ) (all : List JournalValue) : Type 0 where
  pub many : length all ≡ nodes
  pub each : (i : ℕ) → i < length all → IsFirstOf i (journal_at all i)

-- the page after all records of the journal, which begins before the node's first boot
abbrev pub last_page_of : Table → JournalValue → Page
last_page_of t j = page_after (beginning_of t j.beginning.node 0) j.records

-- the pages are those after all records of the journals
abbrev pub PagesHold : Table → List JournalValue → List Page → Type 0
PagesHold t all pages = pages ≡ map (last_page_of t) all

-- each result in the journal is that of the model's step, record after record, from before the node's first boot
abbrev pub IsTrueOf : Table → JournalValue → Type 0
IsTrueOf t j = AreHistory (beginning_of t j.beginning.node 0) j.records

-- each result in all journals is that of the model's step
abbrev pub AreTrueOf : Table → List JournalValue → Type 0
AreTrueOf t all = (i : ℕ) → i < length all → IsTrueOf t (journal_at all i)
