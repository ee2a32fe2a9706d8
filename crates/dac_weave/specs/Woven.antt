-- A run of world events as each node sees it, and when it reproduces a list of journals.
use Rattle.std.specs.Prelude.{◌⊎◌, ◌≡◌, ◌≢◌, ℕ, ◌+◌, ◌<◌, ◌≤◌, cond, nat_eq, List, [], ◌∷◌, ◌++◌, length, map as list_map, Some, Result, Ok, Err}
use Rattle.std.specs.List.{slice_get}
use Rattle.dac_base.specs.declared.NodeId.{NodeId}
use Rattle.dac_config.specs.Table.{Table}
use Rattle.dac_messages.specs.declared.event.Event.{Event}
use Rattle.dac_messages.specs.declared.reply.Reply.{Reply}
use Rattle.dac_events.specs.declared.refusal.Refusal.{Refusal}
use Rattle.dac_events.specs.declared.WorldEvent.{WorldEvent}
use Rattle.dac_journal.specs.WorldFault.{WorldFault}
use Rattle.dac_journal.specs.WorldFault.TheVariants.{Refused}
use Rattle.dac_journal.specs.ModelWorld.{ModelWorld, start, event_of, happens}
use Rattle.dac_journal.specs.declared.record.Record.{Record}
use Rattle.dac_journal.specs.Journals.{JournalValue}

-- ---- a run as seen from a node
-- a world event at its node: the node's own event, or a fault if its number names none, and the result
pub record Seen : Type 0 where
  pub event : Result Event WorldFault
  pub answer : Result Reply WorldFault

abbrev pub seen_of : Table → ModelWorld → WorldEvent → Seen
seen_of t w e = record { event = event_of w.operations w.messages e.what; answer = (happens t w e).answer }

-- the events of node n in the run of these events from w
abbrev pub seen_at : Table → NodeId → ModelWorld → List WorldEvent → List Seen
seen_at t n w [] = []
seen_at t n w (e ∷ es) = cond (nat_eq e.node.0 n.0) (seen_of t w e ∷ seen_at t n (happens t w e).world es)
    (seen_at t n (happens t w e).world es)

-- the events of node n in a whole run
abbrev pub seen_in : Table → List WorldEvent → NodeId → List Seen
seen_in t es n = seen_at t n (start t) es

-- ---- journals
abbrev pub as_world_result : Result Reply Refusal → Result Reply WorldFault
as_world_result (Ok reply) = Ok reply
as_world_result (Err why) = Err (Refused why)

-- a record as an event seen in a run
abbrev pub as_seen : Record → Seen
as_seen r = record { event = Ok r.event; answer = as_world_result r.answer }

abbrev pub journal_seen : JournalValue → List Seen
journal_seen j = list_map as_seen j.records

-- x is the i-th item, from 0
abbrev pub At : {X : Type 0} → List X → ℕ → X → Type 0
At xs i x = slice_get xs i ≡ Some x

abbrev pub IsPrefixOf : List Seen → List Seen → Type 0
IsPrefixOf xs ys = (rest : List Seen) × (ys ≡ xs ++ rest)

-- no journal belongs to node n
abbrev pub HasNone : List JournalValue → NodeId → Type 0
HasNone js n = (i : ℕ) (j : JournalValue) → At js i j → j.beginning.node ≢ n

-- another journal belongs to the node of the i-th one
abbrev pub IsTwice : List JournalValue → ℕ → JournalValue → Type 0
IsTwice js i j = (k : ℕ) × ((b : JournalValue) × (At js k b × ((k ≢ i) × (b.beginning.node ≡ j.beginning.node))))

-- The i-th journal isn't the whole history of its node: it begins after a boot, or the node has another journal.
abbrev pub IsUnfit : List JournalValue → ℕ → JournalValue → Type 0
IsUnfit js i j = (j.beginning.last ≢ 0) ⊎ IsTwice js i j

abbrev pub AllFit : List JournalValue → Type 0
AllFit js = (i : ℕ) (j : JournalValue) → At js i j → IsUnfit js i j → ⊥

-- ---- the result of the weave
-- The run of es reproduces the journals: at each journal's node exactly its records, in order, with their results, and
-- nothing at any other node.
pub record Gives (t : Table) (js : List JournalValue) (es : List WorldEvent) : Type 0 where
  pub fit : AllFit js
  pub each : (i : ℕ) (j : JournalValue) → At js i j → seen_in t es j.beginning.node ≡ journal_seen j
  pub others : (n : NodeId) → HasNone js n → seen_in t es n ≡ []

-- the run reproduces a prefix of each journal, and nothing at any other node
pub record ReproducesPrefixes (t : Table) (js : List JournalValue) (es : List WorldEvent) : Type 0 where
  pub each : (i : ℕ) (j : JournalValue) → At js i j → IsPrefixOf (seen_in t es j.beginning.node) (journal_seen j)
  pub others : (n : NodeId) → HasNone js n → seen_in t es n ≡ []

-- Of the journals with property among, the i-th has the least node.
pub record IsFirst (js : List JournalValue) (among : ℕ → JournalValue → Type 0) (i : ℕ)
    (j : JournalValue) : Type 0 where
  pub there : At js i j
  pub is : among i j
  pub least : (k : ℕ) (b : JournalValue) → At js k b → among k b → j.beginning.node.0 ≤ b.beginning.node.0

-- the run reproduces the journals of lesser nodes whole
abbrev pub GivesEarlier : Table → List JournalValue → NodeId → List WorldEvent → Type 0
GivesEarlier t js node es =
    (k : ℕ) (b : JournalValue) → At js k b → b.beginning.node.0 < node.0 → seen_in t es b.beginning.node ≡ journal_seen b

-- the run reproduces prefixes, of journal j the records before place, and the journals of lesser nodes whole
abbrev pub ReachesPlace : Table → List JournalValue → JournalValue → ℕ → List WorldEvent → Type 0
ReachesPlace t js j place es =
    ReproducesPrefixes t js es
    × ((length (seen_in t es j.beginning.node) + 1 ≡ place) × GivesEarlier t js j.beginning.node es)

-- Some run reaches this place of the i-th journal, and no run of prefixes includes the record there.
pub record IsStuckAt (t : Table) (js : List JournalValue) (i : ℕ) (j : JournalValue) (place : ℕ) : Type 0 where
  pub there : At js i j
  pub within : place ≤ length j.records
  pub reached : (es : List WorldEvent) × ReachesPlace t js j place es
  pub never : (es : List WorldEvent) → ReproducesPrefixes t js es → length (seen_in t es j.beginning.node) < place

-- the fault for journals that no run reproduces: the least unfit journal with place 0, or a place where every run is
-- stuck
pub record IsUnwoven (t : Table) (js : List JournalValue) (node : NodeId) (place : ℕ) : Type 0 where
  pub journal : JournalValue
  pub index : ℕ
  pub node_is : journal.beginning.node ≡ node
  pub cause : ((place ≡ 0) × IsFirst js (IsUnfit js) index journal) ⊎ (AllFit js × IsStuckAt t js index journal place)
