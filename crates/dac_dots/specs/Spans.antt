-- Spans of consecutive counters.
use Rattle.std.specs.Prelude.{◌≡◌, ℕ, zero, suc, ◌+◌, ◌-◌, ◌≤◌, min, max, nat_le, nat_lt, ◌&&◌, Bool, true, false, cond, if◌then◌else◌, Option, Some, None, List, [], ◌∷◌, length}
use Rattle.std.specs.List.{flat_map, list_any, AllByRecursion, AllWithin}
use Rattle.dac_dots.specs.declared.spans.Span.{Span}
use Rattle.dac_dots.specs.declared.spans.Spans.{Spans}
use Rattle.dac_dots.specs.declared.spans.Spans.TheVariants.{Empty, One, Listed}

-- n consecutive numbers from `first`
unfoldable pub from_on : ℕ → ℕ → List ℕ
from_on first zero = []
from_on first (suc n) = first ∷ from_on (suc first) n

-- the counters of a span
unfoldable pub counters_of_span : Span → List ℕ
counters_of_span span = from_on span.first (span.last + 1 - span.first)

-- the counters of all these spans
unfoldable pub counters_in : List Span → List ℕ
counters_in spans = flat_map counters_of_span spans

-- whether the span contains the counter
abbrev pub span_has : ℕ → Span → Bool
span_has n span = nat_le span.first n && nat_le n span.last

-- whether any of the spans contains the counter
abbrev pub any_span : List Span → ℕ → Bool
any_span spans n = list_any (span_has n) spans

-- No span is empty, the first begins at low or later, and there are gaps between the spans.
abbrev pub are_apart : ℕ → List Span → Bool
are_apart low [] = true
are_apart low (span ∷ spans) = nat_le low span.first && (nat_le span.first span.last && are_apart (span.last + 2) spans)

-- no span is empty
abbrev pub AreSpans : List Span → Type 0
AreSpans spans = AllByRecursion (λ (span : Span). span.first ≤ span.last) spans

-- `place` is the insertion index of a span that begins at `first`: the spans that end before it with a gap are those
-- before `place`
pub record IsPlaceFor (spans : List Span) (place first : ℕ) : Type 0 where
  pub within : place ≤ length spans
  pub before : AllWithin (λ (span : Span). nat_lt (span.last + 1) first ≡ true) spans 0 place
  pub after : AllWithin (λ (span : Span). nat_lt (span.last + 1) first ≡ false) spans place (length spans)

-- exactly the spans before `place` end before the counter
abbrev pub HaveEnded : List Span → ℕ → ℕ → Type 0
HaveEnded spans place n = AllWithin (λ (span : Span). nat_lt span.last n ≡ true) spans 0 place
    × AllWithin (λ (span : Span). nat_lt span.last n ≡ false) spans place (length spans)

-- the least span that contains both
abbrev pub hull : Span → Span → Span
hull a b = record { first = min a.first b.first; last = max a.last b.last }

-- the span without its first counter, unless that is the only one
abbrev pub rest_of : Span → Option Span
rest_of span = if nat_lt span.first span.last then Some (record { first = span.first + 1; last = span.last }) else None

-- the span joined with the spans after it that it reaches, followed by the others
abbrev pub absorbed : Span → List Span → List Span
absorbed span [] = span ∷ []
absorbed span (next ∷ spans) = cond (nat_le next.first (span.last + 1)) (absorbed (hull span next) spans) (span ∷ next ∷ spans)

-- the spans of a set, in any representation
abbrev pub spans_of : Spans → List Span
spans_of Empty = []
spans_of (One span) = span ∷ []
spans_of (Listed spans) = spans.items
