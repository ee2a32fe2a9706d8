-- Iteration over the further counters of a row.
use Rattle.std.specs.Prelude.{ℕ, suc, ◌-◌, Bool, cond, Option, Some, None, List, [], ◌++◌, ◌∷◌}
use Rattle.dac_dots.specs.declared.further.FurtherIter.{FurtherIter}
use Rattle.dac_dots.specs.declared.spans.Span.{Span}
use Rattle.dac_dots.specs.Spans.{from_on}

-- the counters of these spans, of which none is empty
abbrev pub counters_along : List Span → List ℕ
counters_along [] = []
counters_along (span ∷ spans) = from_on span.first (suc (span.last - span.first)) ++ counters_along spans

-- 0, if the condition holds, and the counters of these spans
abbrev pub counters_after : Bool → List Span → List ℕ
counters_after has_zero spans = cond has_zero (0 ∷ []) [] ++ counters_along spans

-- the counters of a span that was begun, and of the spans after it
abbrev pub counters_left : Option Span → List Span → List ℕ
counters_left None spans = counters_along spans
counters_left (Some span) spans = counters_along (span ∷ spans)

-- the counters that remain
abbrev pub left_of : FurtherIter → List ℕ
left_of walk = counters_left walk.span walk.spans.now
