-- The seats whose records the events of a run are.
use Rattle.std.specs.Prelude.{◌≡◌, ℕ, cond, nat_eq, List, [], ◌∷◌, length, map}
use Rattle.dac_base.specs.declared.NodeId.{NodeId}
use Rattle.dac_events.specs.declared.WorldEvent.{WorldEvent}
use Rattle.dac_journal.specs.declared.record.Record.{Record}
use Rattle.dac_journal.specs.Journals.{JournalValue}
use Rattle.dac_weave.specs.Woven.{At}

-- the seats of the events at node n
abbrev pub seats_at : NodeId → List WorldEvent → List ℕ → List ℕ
seats_at n [] seats = []
seats_at n (e ∷ es) [] = []
seats_at n (e ∷ es) (seat ∷ seats) = cond (nat_eq e.node.0 n.0) (seat ∷ seats_at n es seats) (seats_at n es seats)

-- the seats of a journal's records
abbrev pub seats_of : JournalValue → List ℕ
seats_of j = map (λ (r : Record). r.seat) j.records

-- each event has the seat of its record
pub record HaveSeats (js : List JournalValue) (es : List WorldEvent) (seats : List ℕ) : Type 0 where
  pub many : length seats ≡ length es
  pub each : (i : ℕ) (j : JournalValue) → At js i j → seats_at j.beginning.node es seats ≡ seats_of j
