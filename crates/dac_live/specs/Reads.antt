-- The pages that callers' lines read.
use Rattle.std.specs.Prelude.{⊤, ℕ, ◌≡◌, ◌<◌, ◌≤◌, ◌==◌, ◌++◌, ◌∷◌, [], All, List, Option, Some, None, Result, Ok, Err, flat_map, if◌then◌else◌, length, take, drop, ◌+◌, zip}
use Rattle.std.specs.List.{AllZip}
use Rattle.dac_config.specs.Table.{Table}
use Rattle.dac_messages.specs.declared.reply.Reply.{Reply}
use Rattle.dac_events.specs.declared.refusal.Refusal.{Refusal}
use Rattle.dac_pages.specs.declared.page.Page.{Page}
use Rattle.dac_sites.specs.Call.{Call}
use Rattle.dac_crews.specs.Record.{Record}
use Rattle.dac_crews.specs.Journals.{JournalValue, Beginning, beginning_of, calls_of}
use Rattle.dac_crews.specs.Paged.{page_after}
use Rattle.dac_crews.specs.Compared.{found}
use Rattle.dac_crews.specs.declared.phases.Line.{Line}
use Rattle.dac_crews.specs.declared.phases.Phase.{Phase}
use Rattle.dac_live.specs.declared.report.LineAnswer.{LineAnswer}
use Rattle.dac_live.specs.declared.report.LineAnswer.TheVariants.{Done, Fresh, Stale}
use Rattle.dac_phases.specs.Asks.{is_of}
use Rattle.dac_live.specs.Lines.{answer_in}
use Rattle.dac_phases.specs.Pairs.{records_at}

-- each line of each phase has an entry: the page that it read, or none
abbrev pub AreNoted : List Phase → List (List (Option Page)) → Type 0
AreNoted phases reads =
    AllZip (λ (p : Phase) (noted : List (Option Page)). length noted ≡ length p.lines.items) phases reads

-- ---- pages
-- the page is that of a node after as many of these records as its place says
abbrev pub IsPageOf : Beginning → List Record → Page → Type 0
IsPageOf o rs page = page ≡ page_after o (take page.place rs)

-- the page that the line read, if it is a line of this node and read one
abbrev pub page_one : ℕ → Line × Option Page → Option Page
page_one node read = if read.0.node.0 == node then read.1 else None

-- the pages that these lines of this node read, in order
abbrev pub pages_in : ℕ → List Line → List (Option Page) → List Page
pages_in node lines reads = found (page_one node) (zip lines reads)

-- the pages that lines of this node read over all phases, in order
abbrev pub pages_read : ℕ → List Phase → List (List (Option Page)) → List Page
pages_read node phases reads =
    flat_map (λ (p : Phase × List (Option Page)). pages_in node p.0.lines.items p.1) (zip phases reads)

-- each page that a line of a node read is the one after as many records of the node's journal as its place says
abbrev pub PagesAreRead : Table → List Phase → List (List (Option Page)) → List JournalValue → Type 0
PagesAreRead t phases reads closed = (node : ℕ) → node < length closed
    → All (IsPageOf (beginning_of t (record { 0 = node }) 0) (records_at closed node)) (pages_read node phases reads)

-- ---- receipts
-- the place of a caller's last receipt after a call at this place; a refusal gives no receipt
abbrev pub receipt_by : ℕ → ℕ → Result Reply Refusal → ℕ
receipt_by last place (Ok reply) = place
receipt_by last place (Err why) = last

-- the place of the last receipt after all these calls
abbrev pub receipt_after : ℕ → List Call → ℕ
receipt_after last [] = last
receipt_after last (c ∷ cs) = receipt_after (receipt_by last c.place c.answer) cs

-- the place of the first of these calls, or `end` if there is none
abbrev pub next_place : ℕ → List Call → ℕ
next_place end [] = end
next_place end (c ∷ cs) = c.place

-- The result and the page of a line agree with the places of the caller's last receipt and of its next record: a fresh
-- page isn't older than the receipt, and precedes the record; a stale one is older, or there is none. A line that calls
-- reads no page.
abbrev pub IsTold : ℕ → ℕ → LineAnswer → Option Page → Type 0
IsTold receipt next (Done answer) None = ⊤
IsTold receipt next (Done answer) (Some page) = ⊥
IsTold receipt next Fresh None = ⊥
IsTold receipt next Fresh (Some page) = (receipt ≤ page.place) × (page.place < next)
IsTold receipt next Stale None = ⊤
IsTold receipt next Stale (Some page) = page.place < receipt

-- ---- a caller's lines
-- the result of a line, and its page, if the line is this caller's of this node
abbrev pub own_one : ℕ → ℕ → Line × (LineAnswer × Option Page) → Option (LineAnswer × Option Page)
own_one node caller told = if is_of node caller told.0 then Some told.1 else None

-- the results and pages of this caller's lines of a phase, in order
abbrev pub own_in : ℕ → ℕ → List Line → List LineAnswer → List (Option Page) → List (LineAnswer × Option Page)
own_in node caller lines answers reads = found (own_one node caller) (zip lines (zip answers reads))

-- the results and pages of this caller's lines over all phases, in order
abbrev pub own_of : ℕ → ℕ → List Phase → List (List LineAnswer) → List (List (Option Page)) → List (LineAnswer × Option Page)
own_of node caller phases answers reads =
    flat_map (λ (p : Phase × (List LineAnswer × List (Option Page))). own_in node caller p.0.lines.items p.1.0 p.1.1)
    (zip phases (zip answers reads))

-- the number of these lines that call
abbrev pub asked_in : List (LineAnswer × Option Page) → ℕ
asked_in lines = length (found (λ (l : LineAnswer × Option Page). answer_in l.0) lines)

-- Each of a caller's lines agrees with the caller's last receipt before it, of as many calls as lines before it call,
-- or place 0 if there is none; and with the caller's next call after these, or `end` if there is none.
pub record FollowsReceipts (calls : List Call) (end : ℕ) (lines : List (LineAnswer × Option Page)) : Type 0 where
  pub each : (before after : List (LineAnswer × Option Page)) (answer : LineAnswer) (read : Option Page)
      → lines ≡ before ++ (answer, read) ∷ after
      → IsTold (receipt_after 0 (take (asked_in before) calls)) (next_place end (drop (asked_in before) calls)) answer read

-- the lines of all callers of a node agree with the receipts before them and the calls after them
abbrev pub NodeFollows : ℕ → List Phase → List (List LineAnswer) → List (List (Option Page)) → List Record → Type 0
NodeFollows node phases answers reads records = (caller : ℕ) → 1 ≤ caller → caller ≤ 4
    → FollowsReceipts (calls_of caller records) (length records + 1) (own_of node caller phases answers reads)

-- the lines of all callers of all nodes agree with the receipts before them and the calls after them
abbrev pub FollowReceipts : List Phase → List (List LineAnswer) → List (List (Option Page)) → List JournalValue → Type 0
FollowReceipts phases answers reads closed =
    (node : ℕ) → node < length closed → NodeFollows node phases answers reads (records_at closed node)

-- ---- both
-- A line that reads has a page of its node's journal, unless it is stale and has none. It is fresh if the page isn't
-- older than its caller's last receipt, and no page that a line reads contains its caller's next record.
pub record ReadsHold (t : Table) (phases : List Phase) (answers : List (List LineAnswer))
    (reads : List (List (Option Page))) (closed : List JournalValue) : Type 0 where
  pub noted : AreNoted phases reads
  pub pages : PagesAreRead t phases reads closed
  pub receipts : FollowReceipts phases answers reads closed
