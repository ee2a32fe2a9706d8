-- The links between closed journals.
use Rattle.std.specs.Prelude.{◌≢◌, ◌<◌, ◌≤◌, ◌+◌, ◌*◌, ℕ, All, List, [], length, nat_lt, slice_index_or, if◌then◌else◌}
use Rattle.dac_crews.specs.Record.{Record}
use Rattle.dac_crews.specs.Journals.{JournalValue, nowhere}
use Rattle.dac_crews.specs.Compared.{Linked}

-- Seats 1 to 4 are the callers'. Then each other node has two, in order of name: the shipper's and the link worker's. A
-- node has none for itself, so the seats of nodes after it are two lower than their numbers suggest.
abbrev pub shipper_seat : ℕ → ℕ → ℕ
shipper_seat me other = if nat_lt other me then 2 * other + 5 else 2 * other + 3

abbrev pub worker_seat : ℕ → ℕ → ℕ
worker_seat me other = shipper_seat me other + 1

-- the records of the journal at this place
abbrev pub records_at : List JournalValue → ℕ → List Record
records_at all i = (slice_index_or all i (record { beginning = nowhere; records = [] })).records

-- the records at both ends of each link from this node match
abbrev pub RowHolds : ℕ → ℕ → List Record → List JournalValue → Type 0
RowHolds phases f sender all = (t : ℕ) → t < length all → t ≢ f
    → Linked phases (record { 0 = t }) (shipper_seat f t) (worker_seat t f) sender (records_at all t)

-- the records at both ends of all links match
abbrev pub LinksHold : ℕ → List JournalValue → Type 0
LinksHold phases all = (f : ℕ) → f < length all → RowHolds phases f (records_at all f) all

-- the link from node f to node t is the first one from f that doesn't match
pub record IsLostTo (phases f t : ℕ) (sender : List Record) (all : List JournalValue) : Type 0 where
  pub within : t < length all
  pub other : t ≢ f
  pub lost : Linked phases (record { 0 = t }) (shipper_seat f t) (worker_seat t f) sender (records_at all t) → ⊥
  pub before : (s : ℕ) → s < t → s ≢ f
      → Linked phases (record { 0 = s }) (shipper_seat f s) (worker_seat s f) sender (records_at all s)

-- the link from f to t is the first one of all that doesn't match, by the node that ships and then by the one that
-- hears
pub record IsLostLink (phases f t : ℕ) (all : List JournalValue) : Type 0 where
  pub within : f < length all
  pub lost : IsLostTo phases f t (records_at all f) all
  pub before : (s : ℕ) → s < f → RowHolds phases s (records_at all s) all

-- Each node of a cluster with this many nodes has the callers' four seats, and two for each other node.
abbrev pub IsSeat : ℕ → ℕ → Type 0
IsSeat nodes seat = (1 ≤ seat) × (seat ≤ 2 * nodes + 2)

-- all records are of such seats
abbrev pub AreOfSeats : ℕ → List Record → Type 0
AreOfSeats nodes records = All (λ (r : Record). IsSeat nodes r.seat) records

-- the records of all journals are of seats that a node has
abbrev pub SeatsHold : List JournalValue → Type 0
SeatsHold all = All (λ (j : JournalValue). AreOfSeats (length all) j.records) all
