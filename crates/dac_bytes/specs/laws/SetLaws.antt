-- Rows that were read are the rows of the set of their dots, and the rows of a set in range can be read.
use Rattle.std.specs.Prelude.{◌≡◌, ℕ, ◌+◌, ◌<◌, ◌≤◌, ◌^◌, true, ◌&&◌, nat_le, List, [], ◌∷◌, length}
use Rattle.std.specs.List.{AllByRecursion}
use Rattle.std.specs.Ordering.{nat_cmp, eq_by_cmp}
use Rattle.std.proofs.Common.{inl, inr, sym, subst, ◌∙◌, arith}
use Rattle.std.proofs.lemmas.Bool.{and_parts, and_from, or_cases, or_left, or_right, false≢true, leb-true, le-leb, cases_lt}
use Rattle.dac_base.specs.declared.limits.TheConstants.{MAX_COUNTER}
use Rattle.dac_origins.specs.Keys.{IsRising, has_key}
use Rattle.dac_origins.specs.laws.InOrder.{tie}
use Rattle.dac_origins.specs.Dots.{Dots, dot, origin_cmp}
use Rattle.dac_origins.specs.laws.Dots.{exact_origins}
use Rattle.dac_origins.specs.declared.dot.Dot.{Dot}
use Rattle.dac_dots.specs.laws.RowSets.{contains-dots_in, kept_are, some_length}
use Rattle.dac_dots.specs.Rows.{Row, IsRowOf, rows_of, dots_in, has_counter, any_row, origins, IsKept, HasSome}
use Rattle.dac_bytes.specs.declared.version.Version.{Version}
use Rattle.dac_bytes.specs.laws.FurtherLaws.{further_of_chain, chain_of_further}
use Rattle.dac_bytes.specs.Ranges.{IsOrigin, IsDot, InRange, IsRow, IsFurther}

-- ---- rows that were read determine their set

module _ (version : Version) (nodes : ℕ) where
  kept_row : (row : Row) → IsRow version nodes row → IsKept row × HasSome row
  kept_row row is =
      let further = further_of_chain (row.upto + 1) row.further is.further in (
        record { rising = further.rising; apart = λ n e. inr (further.each n e).above },
        elim (cases_lt 0 row.upto) [ inl more ↦ inl more | inr none ↦ inr (is.some (omega arith)) ],
      )

  kept_rows : (rows : List Row) → AllByRecursion (IsRow version nodes) rows → AllByRecursion (λ row. IsKept row × HasSome row) rows
  kept_rows [] is = tt
  kept_rows (row ∷ rows) is = (kept_row row is.0, kept_rows rows is.1)

  -- rows that were read are those of their set
  pub rows_are_read : (rows : List Row) → AllByRecursion (IsRow version nodes) rows → IsRising origin_cmp (origins rows) → rows_of (dots_in rows) ≡ rows
  rows_are_read rows is rising = kept_are rows (record { each = kept_rows rows is; rising = rising })

  -- each dot of rows that were read is in range
  dot_in_range : (rows : List Row) → AllByRecursion (IsRow version nodes) rows → (q : Dot) → any_row rows q ≡ true → IsDot version nodes q
  dot_in_range [] is q e = absurd (false≢true e)
  dot_in_range (row ∷ rows) is q e = elim (or_cases (eq_by_cmp origin_cmp q.origin row.origin && has_counter row q.n) (any_row rows q) e) [
    | inl here ↦
        let parts = and_parts _ _ here in
        let first : IsRow version nodes row = is.0 in
        let origin : IsOrigin version nodes q.origin = subst (IsOrigin version nodes) (sym (exact_origins q.origin row.origin (tie _ parts.0))) first.origin in
        elim (or_cases (nat_le 1 q.n && nat_le q.n row.upto) (has_key nat_cmp row.further q.n) parts.1) [
          | inl inside ↦
              let range = and_parts _ _ inside in
              let low = leb-true 1 q.n range.0 in
              let high = leb-true q.n row.upto range.1 in
              let most = first.upto in
              record { origin = origin; first = low; last = omega arith }
          | inr beyond ↦
              let there = (further_of_chain (row.upto + 1) row.further first.further).each q.n beyond in
              record { origin = origin; first = there.first; last = there.last }
        ]
    | inr past ↦ dot_in_range rows is.1 q past
  ]

  pub rows_in_range : (rows : List Row) → AllByRecursion (IsRow version nodes) rows → InRange version nodes (dots_in rows)
  rows_in_range rows is q e = dot_in_range rows is q (sym (contains-dots_in rows q) ∙ e)

-- ---- the rows of a set in range can be read

module _ (dots : Dots) where
  module _ (version : Version) (nodes : ℕ) (range : InRange version nodes dots) where
    is_further : (row : Row) → IsRowOf dots row → (n : ℕ) → has_key nat_cmp row.further n ≡ true → IsFurther (row.upto + 1) n
    is_further row h n e =
        let there = range (dot row.origin n) (h.exact n ∙ or_right _ _ e) in
        let first : 1 ≤ n = there.first in
        let last : n ≤ MAX_COUNTER = there.last in
        let above : row.upto + 1 < n = elim (h.apart n e) [ inl none ↦ absurd (omega arith) | inr past ↦ past ] in
        record { first = first; last = last; above = above }

    upto_in_range : (row : Row) → IsRowOf dots row → row.upto ≤ MAX_COUNTER
    upto_in_range row h = elim (cases_lt 0 row.upto) [
      | inl more ↦ (range (dot row.origin row.upto) (h.exact row.upto ∙ or_left _ _ (and_from _ _ (le-leb 1 row.upto (omega arith)) (le-leb row.upto row.upto (omega arith))))).last
      | inr none ↦ omega arith
    ]

    has_further : (row : Row) → IsRowOf dots row → row.upto ≡ 0 → 1 ≤ length row.further
    has_further row h none = elim (or_cases (nat_le 1 h.some.0 && nat_le h.some.0 row.upto) (has_key nat_cmp row.further h.some.0) (sym (h.exact h.some.0) ∙ h.some.1)) [
      | inl inside ↦
          let parts = and_parts _ _ inside in
          let low = leb-true 1 h.some.0 parts.0 in
          let high = leb-true h.some.0 row.upto parts.1 in
          absurd (omega arith)
      | inr beyond ↦ some_length row.further h.some.0 beyond
    ]

    is_row : (row : Row) → IsRowOf dots row → length row.further < 2 ^ 32 → IsRow version nodes row
    is_row row h count =
        record {
          origin = (range (dot row.origin h.some.0) h.some.1).origin;
          upto = upto_in_range row h;
          further = chain_of_further (row.upto + 1) row.further h.rising (is_further row h);
          count = count;
          some = has_further row h;
        }

    pub are_rows : (rows : List Row) → AllByRecursion (IsRowOf dots) rows → AllByRecursion (λ (row : Row). length row.further < 2 ^ 32) rows → AllByRecursion (IsRow version nodes) rows
    are_rows [] each counts = tt
    are_rows (row ∷ rows) each counts = (is_row row each.0 counts.0, are_rows rows each.1 counts.1)
