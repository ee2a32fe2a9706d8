-- What one set has that another one lacks.
use Rattle.std.specs.Prelude.{◌≡◌, ℕ, ◌≤◌, ◌&&◌, ◌||◌, Bool, false, true, Option, None, Some}
use Rattle.std.specs.Ordering.{eq_by_cmp}
use Rattle.dac_origins.specs.Dots.{origin_cmp}
use Rattle.dac_origins.specs.declared.dot.Origin.{Origin}
use Rattle.dac_origins.specs.declared.dot.Dot.{Dot}
use Rattle.dac_dots.specs.Spans.{span_has}
use Rattle.dac_dots.specs.declared.spans.Span.{Span}
use Rattle.dac_dots.specs.declared.news.News.{News}
use Rattle.dac_dots.specs.declared.news.News.TheVariants.{Nothing, Consecutive, More}

-- both sets together are the second one with the span, if any
abbrev pub AreWithSpan : (ℕ → Bool) → (ℕ → Bool) → Option Span → Type 0
AreWithSpan has other None = (n : ℕ) → (has n || other n) ≡ other n
AreWithSpan has other (Some span) = (span.first ≤ span.last) × ((n : ℕ) → (has n || other n) ≡ (span_has n span || other n))

-- whether the dot is the origin's, with a counter of the span
abbrev pub is_in_span : Origin → Span → Dot → Bool
is_in_span origin span d = eq_by_cmp origin_cmp d.origin origin && span_has d.n span

-- both sets together are the first one with the news, if they are known
abbrev pub AreNews : (Dot → Bool) → (Dot → Bool) → News → Type 0
AreNews old other Nothing = (q : Dot) → (old q || other q) ≡ old q
AreNews old other (Consecutive origin span) =
    (span.first ≤ span.last) × ((q : Dot) → (old q || other q) ≡ (is_in_span origin span q || old q))
AreNews old other More = Unit {0}

-- both are done, or nothing has changed
abbrev pub IsDoneOr : Type 0 → Type 0 → Bool → Type 0
IsDoneOr done same true = done
IsDoneOr done same false = same
