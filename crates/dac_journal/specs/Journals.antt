-- The journal of a site: each event of its node with its result; and each seat's calls in it.
use Rattle.std.specs.Prelude.{◌≡◌, ◌≢◌, ◌⊎◌, ℕ, suc, ◌==◌, min, List, [], ◌∷◌, map, if◌then◌else◌, Result, refl}
use Rattle.std.specs.Coded.{Coded, code_by, coded×, coded_ℕ, coded_list}
use Rattle.dac_base.specs.declared.NodeId.{NodeId}
use Rattle.dac_base.specs.Ids.{coded_node}
use Rattle.dac_shapes.specs.declared.draft.SyncWait.TheVariants.{NoSync}
use Rattle.dac_config.specs.Table.{Table}
use Rattle.dac_messages.specs.declared.event.Event.{Event}
use Rattle.dac_messages.specs.declared.reply.Reply.{Reply}
use Rattle.dac_events.specs.declared.refusal.Refusal.{Refusal}
use Rattle.dac_model_world.specs.NodeValue.{NodeValue}
use Rattle.dac_model_world.specs.ModelNode.{ModelNode, shown}
use Rattle.dac_model_world.specs.Histories.{Entry, IsHistory, off_after}
use Rattle.dac_journal.specs.declared.record.Record.{Record}
use Rattle.dac_journal.specs.declared.record.Call.{Call}

-- the beginning of a journal: the configuration, the node, and the number of its last incarnation
pub record Beginning : Type 0 where
  pub table : Table
  pub node : NodeId
  pub last : ℕ

abbrev pub beginning_of : Table → NodeId → ℕ → Beginning
beginning_of table node last = record { table = table; node = node; last = last }

-- the beginning of no journal
abbrev pub nowhere : Beginning
nowhere = beginning_of (record { nodes = []; apps = []; sync_wait = NoSync }) (record { 0 = 0 }) 0

-- the beginning, and the records, oldest first
pub record JournalValue : Type 0 where
  pub beginning : Beginning
  pub records : List Record

abbrev pub coded_journal : Coded Table → Coded Record → Coded JournalValue
coded_journal table entry =
    code_by ((Table × (NodeId × ℕ)) × List Record) (coded× (coded× table (coded× coded_node coded_ℕ)) (coded_list entry))
    (λ j. ((j.beginning.table, (j.beginning.node, j.beginning.last)), j.records))
    (λ p. record { beginning = record { table = p.0.0; node = p.0.1.0; last = p.0.1.1 }; records = p.1 })
    (λ _. refl)

abbrev pub record_of : ℕ → Event → Result Reply Refusal → Record
record_of seat event answer = record { seat = seat; event = event; answer = answer }

abbrev pub call_of : ℕ → Event → Result Reply Refusal → Call
call_of place event answer = record { place = place; event = event; answer = answer }

-- ---- histories
abbrev pub entry_of : Record → Entry
entry_of r = record { event = r.event; answer = r.answer }

-- each result is that of the model's step, record after record, from the beginning to the model node `final`
abbrev pub IsHistoryFrom : Beginning → List Record → ModelNode → Type 0
IsHistoryFrom o rs final = IsHistory o.table o.node (off_after o.last) (map entry_of rs) final

-- the records are a history
pub record AreHistory (o : Beginning) (rs : List Record) : Type 0 where
  pub final : ModelNode
  pub history : IsHistoryFrom o rs final

-- the records are a history, and the model node that ends it shows as the program's node
pub record EndsAt (o : Beginning) (rs : List Record) (v : NodeValue) : Type 0 where
  pub final : ModelNode
  pub history : IsHistoryFrom o rs final
  pub shows : shown o.table final ≡ v

-- ---- the records of a seat
-- the calls of a seat, with their places; the first record has the given place
abbrev pub calls_from : ℕ → ℕ → List Record → List Call
calls_from seat place [] = []
calls_from seat place (r ∷ rs) = if r.seat == seat then call_of place r.event r.answer ∷ calls_from seat (suc place) rs else calls_from seat (suc place) rs

-- the calls of a seat, with their places from 1
abbrev pub calls_of : ℕ → List Record → List Call
calls_of seat rs = calls_from seat 1 rs

-- the place at which two lists of calls first differ: the lesser of the two there, or the only one if a list has ended
abbrev pub DifferAt : ℕ → List Call → List Call → Type 0
DifferAt p [] [] = ⊥
DifferAt p (x ∷ xs) [] = p ≡ x.place
DifferAt p [] (y ∷ ys) = p ≡ y.place
DifferAt p (x ∷ xs) (y ∷ ys) = ((x ≡ y) × DifferAt p xs ys) ⊎ ((x ≢ y) × (p ≡ min x.place y.place))
