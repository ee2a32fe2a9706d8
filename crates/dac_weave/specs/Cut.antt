-- Journals up to the ends of phases.
use Rattle.std.specs.Prelude.{◌≡◌, ℕ, ◌≤◌, ◌<◌, List, [], ◌∷◌, length, take, map}
use Rattle.std.specs.Global.{Vec}
use Rattle.std.specs.List.{AllZip}
use Rattle.dac_journal.specs.Journals.{JournalValue}

-- a journal up to its n-th record
abbrev pub cut_at : JournalValue → ℕ → JournalValue
cut_at j n = record { beginning = j.beginning; records = take n j.records }

-- each journal up to the end of a phase; the row has the number of its records up to there
abbrev pub cut : List JournalValue → List ℕ → List JournalValue
cut [] row = []
cut (j ∷ js) [] = []
cut (j ∷ js) (n ∷ row) = cut_at j n ∷ cut js row

-- the row before the first phase
abbrev pub no_ends : List JournalValue → List ℕ
no_ends js = map (λ (j : JournalValue). 0) js

-- the row after the last phase
abbrev pub lengths_of : List JournalValue → List ℕ
lengths_of js = map (λ (j : JournalValue). length j.records) js

-- the rows rise from `before`, and the last one is `last`
abbrev pub RiseTo : List ℕ → List (List ℕ) → List ℕ → Type 0
RiseTo last [] before = before ≡ last
RiseTo last (row ∷ rows) before = AllZip (λ (m n : ℕ). m ≤ n) before row × RiseTo last rows row

-- The rows are the ends of phases in these journals: there is a phase, the rows rise, and the last one is the journals'
-- lengths.
pub record AreEnds (js : List JournalValue) (rows : List (List ℕ)) : Type 0 where
  pub some : 0 < length rows
  pub rise : RiseTo (lengths_of js) rows (no_ends js)

-- the rows in these lists
abbrev pub rows_of : List (Vec ℕ) → List (List ℕ)
rows_of ends = map (λ (row : Vec ℕ). row.items) ends
