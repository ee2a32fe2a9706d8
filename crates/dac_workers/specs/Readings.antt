-- Pages read after receipts.
use Rattle.std.specs.Prelude.{◌≡◌, ◌≤◌, ◌<◌, ⊤, ℕ, max, Option, None, Some}
use Rattle.dac_sites.specs.declared.receipt.Receipt.{Receipt}
use Rattle.dac_sites.specs.Receipts.{note_of, learned}
use Rattle.dac_workers.specs.declared.reading.Reading.{Reading}
use Rattle.dac_workers.specs.declared.reading.Reading.TheVariants.{Fresh, Stale}

-- the least place of a reader's next page, after learning a place, if there is one
abbrev pub least_with : Option ℕ → ℕ → ℕ
least_with None least = least
least_with (Some place) least = max least place

module _ {L : Type 0} where
  -- the place in the receipt; 0 without a receipt
  abbrev pub place_in : Option (Receipt L) → ℕ
  place_in None = 0
  place_in (Some r) = r.place

  -- the least place of a reader's next page, after learning the receipt
  abbrev pub least_after : Option (Receipt L) → ℕ → ℕ
  least_after None least = least
  least_after (Some r) least = least_with (note_of r) least

  -- the receipt after a reader has learned it
  abbrev pub learned_in : Option (Receipt L) → Option (Receipt L)
  learned_in None = None
  learned_in (Some r) = Some (learned r)

-- a fresh page has at least this place; a stale one has a lesser place
abbrev pub IsReading : ℕ → Reading → Type 0
IsReading least (Fresh page) = least ≤ page.place
IsReading least (Stale None) = ⊤
IsReading least (Stale (Some page)) = page.place < least

-- the least place of the reader's next page: that of the page read, or unchanged if none was read
abbrev pub LeadsTo : ℕ → Reading → ℕ → Type 0
LeadsTo least (Fresh page) now = (least ≤ page.place) × (now ≡ page.place)
LeadsTo least (Stale None) now = now ≡ least
LeadsTo least (Stale (Some page)) now = (least ≤ page.place) × (now ≡ page.place)
