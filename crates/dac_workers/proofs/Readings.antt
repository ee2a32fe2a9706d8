-- The least place after a receipt is learned, as one number.
use Rattle.std.proofs.Common.{◌≡◌, ℕ, Option, None, Some, max}
use Rattle.std.specs.Option.{IfSome, IfNone}
use Rattle.dac_sites.specs.declared.receipt.Receipt.{Receipt}
use Rattle.dac_sites.specs.Receipts.{note_of}
use Rattle.dac_workers.specs.Readings.{least_with, least_after}

least_by_note : (note : Option ℕ) (old new : ℕ) → IfSome note (λ place. new ≡ max old place) → IfNone note (new ≡ old) → new ≡ least_with note old
least_by_note None old new first later = later
least_by_note (Some place) old new first later = first

pub least_by_clauses : {L : Type 0} (r : Receipt L) (old new : ℕ) → IfSome (note_of r) (λ place. new ≡ max old place) → IfNone (note_of r) (new ≡ old) → new ≡ least_after (Some r) old
least_by_clauses r old new first later = least_by_note (note_of r) old new first later
