-- The part of a receipt that its owner can't change.
use Rattle.std.specs.Prelude.{ℕ, Option, None}
use Rattle.dac_sites.specs.declared.receipt.Receipt.{Receipt}

module _ {L : Type 0} where
  -- the place for the first reader to learn; none after that
  abbrev pub note_of : Receipt L → Option ℕ
  note_of r = r.note

  -- the receipt after a reader has learned it
  abbrev pub learned : Receipt L → Receipt L
  learned r = record r { note = None }
