-- The prepared next record of a journal.
use Rattle.std.specs.Prelude.{◌≡◌, ℕ, ◌+◌, List, [], ◌∷◌, ◌++◌, length, Option, Some, None, refl}
use Rattle.std.specs.Coded.{Coded, code_by, coded×, coded_option}
use Rattle.dac_messages.specs.declared.event.Event.{Event}
use Rattle.dac_model_world.specs.NodeValue.{NodeValue}
use Rattle.dac_node.specs.Changes.{ChangeValue, Fits, changed}
use Rattle.dac_journal.specs.declared.record.Record.{Record}
use Rattle.dac_journal.specs.declared.record.Call.{Call}
use Rattle.dac_journal.specs.Journals.{Beginning, JournalValue, EndsAt, record_of, call_of}

-- the record, the seat's copy of the call, and the change of the node, if the event isn't refused
pub record NextValue : Type 0 where
  pub entry : Record
  pub call : Call
  pub change : Option ChangeValue

abbrev pub coded_next : Coded Record → Coded Call → Coded ChangeValue → Coded NextValue
coded_next entry call change =
    code_by (Record × (Call × Option ChangeValue)) (coded× entry (coded× call (coded_option change)))
    (λ n. (n.entry, (n.call, n.change)))
    (λ p. record { entry = p.0; call = p.1.0; change = p.1.1 })
    (λ _. refl)

-- a node after the change, if there is one
abbrev pub node_by : Option ChangeValue → NodeValue → NodeValue
node_by None v = v
node_by (Some change) v = changed v change

-- the change can be applied to the node
abbrev pub FitsBy : Option ChangeValue → NodeValue → Type 0
FitsBy None v = Unit {0}
FitsBy (Some change) v = Fits v change

-- at the node where these records end, the change can be applied, and leads to where the records with this one end
abbrev pub GoesOnBy : Beginning → List Record → Record → Option ChangeValue → Type 0
GoesOnBy o rs entry change =
    (v : NodeValue) → EndsAt o rs v → FitsBy change v × EndsAt o (rs ++ entry ∷ []) (node_by change v)

-- the next record and call of a journal, for this event called by this seat
pub record GoesTo (j : JournalValue) (seat : ℕ) (event : Event) (next : NextValue) : Type 0 where
  pub entry : next.entry ≡ record_of seat event next.entry.answer
  pub call : next.call ≡ call_of (length j.records + 1) event next.entry.answer
  pub goes : GoesOnBy j.beginning j.records next.entry next.change
