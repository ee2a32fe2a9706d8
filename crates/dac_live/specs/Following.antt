-- Lines that agree with the calls before and after them, line by line.
use Rattle.std.specs.Prelude.{ℕ, ◌≡◌, ◌+◌, ◌<◌, ◌∷◌, [], List, Option, length, slice_index_or}
use Rattle.dac_pages.specs.declared.page.Page.{Page}
use Rattle.dac_sites.specs.Call.{Call}
use Rattle.dac_live.specs.declared.report.LineAnswer.{LineAnswer}
use Rattle.dac_live.specs.Reads.{receipt_by, IsTold, asked_in}

-- The places of a caller's last receipt and of its next record, before each of these calls and after the last: before
-- them the last receipt has the place `last`, and after them the next record has the place `end`.
abbrev pub spans_from : ℕ → ℕ → List Call → List (ℕ × ℕ)
spans_from last end [] = (last, end) ∷ []
spans_from last end (c ∷ cs) = (last, c.place) ∷ spans_from (receipt_by last c.place c.answer) end cs

-- a line agrees with the places of the last receipt and the next record
abbrev pub IsToldIn : ℕ × ℕ → LineAnswer → Option Page → Type 0
IsToldIn span answer read = IsTold span.0 span.1 answer read

-- each of these lines agrees with the calls before and after it: `from` calls before the first line, and `to` after the
-- last
abbrev pub Follows : List (ℕ × ℕ) → ℕ → ℕ → List (LineAnswer × Option Page) → Type 0
Follows spans from to [] = from ≡ to
Follows spans from to (l ∷ ls) = (from < length spans) × IsToldIn (slice_index_or spans from (0, 0)) l.0 l.1
    × Follows spans (from + asked_in (l ∷ [])) to ls
