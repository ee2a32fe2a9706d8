-- The codec of contexts: a context that is read is in range and has these bytes as its spelling, and each one in range
-- is read from its spelling.
use Rattle.std.specs.Prelude.{◌≡◌, ℕ, ◌+◌, ◌-◌, ◌<◌, ◌≤◌, ◌^◌, true, false, cond, nat_lt, nat_eq, List, [], ◌∷◌, ◌++◌, length, Option, Some, None, Ok, refl}
use Rattle.std.specs.List.{flat_map, AllByRecursion}
use Rattle.std.specs.Int.{w16, w64}
use Rattle.std.proofs.Common.{sym, subst, arith, append_assoc}
use Rattle.std.proofs.lemmas.Bool.{ltb-true, lt-ltb, eqb-true, eqb-false}
use Rattle.dac_base.specs.declared.limits.TheConstants.{MAX_COUNTER}
use Rattle.dac_origins.specs.Dots.{Dots, origin_cmp}
use Rattle.dac_origins.specs.laws.Dots.{origins_total}
use Rattle.dac_origins.specs.declared.dot.Origin.{Origin}
use Rattle.dac_bytes.specs.declared.version.Version.{Version}
use Rattle.dac_bytes.specs.declared.fault.ReadFaultKind.TheVariants.{BadOrder}
use Rattle.dac_bytes.specs.laws.Fields.{u16_takes, u16_again, u32_in_takes, u32_in_again, u64_in_takes, u64_in_again, counter_takes, counter_again, origin_above_takes, origin_above_again}
use Rattle.dac_bytes.specs.Items.{Chain}
use Rattle.dac_bytes.specs.laws.Items.{items_takes, items_again}
use Rattle.dac_bytes.specs.Numbers.{u16_bytes, u32_bytes, u64_bytes}
use Rattle.dac_bytes.specs.Ranges.{IsOrigin, IsFurther, IsRow, CountsFit, IsContext}
use Rattle.dac_bytes.specs.Reading.{Rest, ◌>>=◌, fault, is_above, number_at, range_at, counter_at, origin_above_at, items_at, further_at, further_count_at, row_at, rows_at, context_at}
use Rattle.dac_bytes.specs.laws.RisingLaws.{IsNextAbove, AreRising, rising_of, chain_of}
use Rattle.dac_dots.specs.laws.RowLaws.{rows_tell}
use Rattle.dac_dots.specs.laws.RowSets.{dots_back}
use Rattle.dac_dots.specs.Rows.{Row, rows_of, dots_in}
use Rattle.dac_bytes.specs.laws.SetLaws.{rows_in_range, are_rows, rows_are_read}
use Rattle.dac_bytes.specs.Spelling.{origin_bytes, row_bytes, context_bytes}
use Rattle.dac_bytes.specs.Takes.{Takes, TakesAs, Again}
use Rattle.dac_bytes.specs.laws.Takes.{Takes-then, TakesAs-more, TakesAs-wanted, Again-then, Again-made, Again-wanted, bind_ok, ok_is}

-- ---- a row

further_takes : (low : ℕ) → TakesAs (further_at low) u64_bytes (IsFurther low)
unfolding further_at
further_takes low =
    let read = λ (r : Rest). counter_at r >>= λ n. cond (nat_lt low n.0) (Ok n) (fault BadOrder r) in
    TakesAs-more read u64_bytes (λ n. ((1 ≤ n) × (n ≤ MAX_COUNTER)) × (nat_lt low n ≡ true)) (IsFurther low)
    (TakesAs-wanted counter_at u64_bytes (λ n. (1 ≤ n) × (n ≤ MAX_COUNTER)) (λ n. nat_lt low n) BadOrder counter_takes)
    (λ n is. record { first = is.0.0; last = is.0.1; above = ltb-true low n is.1 })

further_again : (low n : ℕ) → IsFurther low n → Again (further_at low) (u64_bytes n) n
unfolding further_at
further_again low n is = Again-wanted counter_at (λ n. nat_lt low n) BadOrder (u64_bytes n) n (counter_again n is.first is.last) (lt-ltb low n is.above)

least_count : ℕ → ℕ
least_count upto = cond (nat_eq upto 0) 1 0

some_dot : (upto count : ℕ) → least_count upto ≤ count → upto ≡ 0 → 1 ≤ count
unfolding least_count
some_dot upto count le none = elim (nat_eq upto 0) as (λ b. nat_eq upto 0 ≡ b → cond b 1 0 ≤ count → 1 ≤ count) [
  | true ↦ λ e le. le
  | false ↦ λ e le. absurd (eqb-false upto 0 e none)
] refl le

count_least : (upto count : ℕ) → (upto ≡ 0 → 1 ≤ count) → least_count upto ≤ count
unfolding least_count
count_least upto count some = elim (nat_eq upto 0) as (λ b. nat_eq upto 0 ≡ b → cond b 1 0 ≤ count) [
  | true ↦ λ e. some (eqb-true upto 0 e)
  | false ↦ λ e. omega arith
] refl

regroup : (a b c d : List ℕ) → a ++ (b ++ (c ++ d)) ≡ ((a ++ b) ++ c) ++ d
regroup a b c d = sym (simp append_assoc)

module _ (version : Version) (nodes : ℕ) where
  -- a row of an origin greater than the previous one
  abbrev IsNext : Option Origin → Row → Type 0
  IsNext = IsNextAbove origin_cmp (λ (row : Row). row.origin) (IsRow version nodes)

  abbrev made : Origin → ℕ → List ℕ → Row
  made origin upto further = record { origin = origin; upto = upto; further = further }

  -- the four fields of a row in sequence
  row_spelled : (origin : Origin) (upto : ℕ) (further : List ℕ) (r a b c end : Rest)
      → Takes r (origin_bytes version origin) a → Takes a (u64_bytes upto) b → Takes b (u32_bytes (length further)) c → Takes c (flat_map u64_bytes further) end → Takes r (row_bytes version (made origin upto further)) end
  unfolding row_bytes
  row_spelled origin upto further r a b c end p q s t =
      let ab = Takes-then r (origin_bytes version origin) a (u64_bytes upto) b p q in
      let abc = Takes-then r (origin_bytes version origin ++ u64_bytes upto) b (u32_bytes (length further)) c ab s in
      Takes-then r (origin_bytes version origin ++ u64_bytes upto ++ u32_bytes (length further)) c (flat_map u64_bytes further) end abc t

  row_is : (origin : Origin) (upto count : ℕ) (further : List ℕ) → IsOrigin version nodes origin → upto ≤ MAX_COUNTER → (least_count upto ≤ count) × (count ≤ 2 ^ 32 - 1)
      → (length further ≡ count) × Chain IsFurther (λ n. n) (upto + 1) further → IsRow version nodes (made origin upto further)
  row_is origin upto count further is most counts chain =
      record {
        origin = is;
        upto = most;
        further = chain.1;
        count = omega (arith, counts.1, chain.0);
        some = λ none. omega (arith, some_dot upto count counts.0 none, chain.0);
      }

  row_further : (before : Option Origin) (origin : Origin) (upto count : ℕ) (r a b c : Rest) (x : Row × Rest)
      → Takes r (origin_bytes version origin) a × (IsOrigin version nodes origin × (is_above origin_cmp before origin ≡ true)) → Takes a (u64_bytes upto) b × ((0 ≤ upto) × (upto ≤ MAX_COUNTER))
      → Takes b (u32_bytes count) c × ((least_count upto ≤ count) × (count ≤ 2 ^ 32 - 1))
      → (items_at further_at (λ n. n) count (upto + 1) c >>= λ further. Ok (made origin upto further.0, further.1)) ≡ Ok x → Takes r (row_bytes version x.0) x.1 × IsNext before x.0
  row_further before origin upto count r a b c x ta tb tc e =
      let d = bind_ok (items_at further_at (λ n. n) count (upto + 1) c) (λ further. Ok (made origin upto further.0, further.1)) x e in
      let further = d.0.0 in
      let end = d.0.1 in
      let td = items_takes further_at (λ n. n) u64_bytes IsFurther further_takes count (upto + 1) c d.0 tc.0.fits d.1 in
      let counted : Takes b (u32_bytes (length further)) c = subst (λ (n : ℕ). Takes b (u32_bytes n) c) (sym td.1.0) tc.0 in
      let spelled = row_spelled origin upto further r a b c end ta.0 tb.0 counted td.0 in
      let is = row_is origin upto count further ta.1.0 tb.1.1 tc.1 td.1 in
      subst (λ (x : Row × Rest). Takes r (row_bytes version x.0) x.1 × IsNext before x.0) (ok_is (made origin upto further, end) x d.2) (spelled, (is, ta.1.1))

  row_rest : (before : Option Origin) (r : Rest) (origin : Origin × Rest) (x : Row × Rest)
      → Takes r (origin_bytes version origin.0) origin.1 × (IsOrigin version nodes origin.0 × (is_above origin_cmp before origin.0 ≡ true))
      → (range_at w64 0 MAX_COUNTER origin.1 >>= λ upto. further_count_at upto.0 upto.1 >>= λ count. items_at further_at (λ n. n) count.0 (upto.0 + 1) count.1 >>= λ further. Ok (made origin.0 upto.0 further.0, further.1)) ≡ Ok x
      → Takes r (row_bytes version x.0) x.1 × IsNext before x.0
  unfolding least_count
  row_rest before r origin x ta e =
      let b = bind_ok (range_at w64 0 MAX_COUNTER origin.1) (λ upto. further_count_at upto.0 upto.1 >>= λ count. items_at further_at (λ n. n) count.0 (upto.0 + 1) count.1 >>= λ further. Ok (made origin.0 upto.0 further.0, further.1)) x e in
      let upto = b.0.0 in
      let tb = u64_in_takes 0 MAX_COUNTER origin.1 b.0 ta.0.fits b.1 in
      let c = bind_ok (further_count_at upto b.0.1) (λ count. items_at further_at (λ n. n) count.0 (upto + 1) count.1 >>= λ further. Ok (made origin.0 upto further.0, further.1)) x b.2 in
      let tc = u32_in_takes (least_count upto) (2 ^ 32 - 1) b.0.1 c.0 tb.0.fits c.1 in
      row_further before origin.0 upto c.0.0 r origin.1 b.0.1 c.0.1 x ta tb tc c.2

  row_takes : (before : Option Origin) → TakesAs (row_at version nodes before) (row_bytes version) (IsNext before)
  unfolding row_at least_count
  row_takes before r x fits e =
      let a = bind_ok (origin_above_at version nodes before r) (λ origin. range_at w64 0 MAX_COUNTER origin.1 >>= λ upto. further_count_at upto.0 upto.1 >>= λ count. items_at further_at (λ n. n) count.0 (upto.0 + 1) count.1 >>= λ further. Ok (made origin.0 upto.0 further.0, further.1)) x e in
      row_rest before r a.0 x (origin_above_takes version nodes before r a.0 fits a.1) a.2

  -- the rows of the context that was read are the rows that were read
  rows_are : (rows : List Row) → AreRising origin_cmp (λ (row : Row). row.origin) (IsRow version nodes) None rows → rows_of (dots_in rows) ≡ rows
  rows_are rows h = rows_are_read version nodes rows h.each h.rising

  counts : (rows : List Row) → AllByRecursion (IsRow version nodes) rows → AllByRecursion (λ (row : Row). length row.further < 2 ^ 32) rows
  counts [] all = tt
  counts (row ∷ rows) all = (all.0.count, counts rows all.1)

  -- A context that is read has these bytes as its spelling, and is in range.
  pub context_takes : TakesAs (context_at version nodes) (context_bytes version) (IsContext version nodes)
  unfolding context_at rows_at context_bytes
  context_takes r x fits e =
      let a = bind_ok (rows_at version nodes r) (λ rows. Ok (dots_in rows.0, rows.1)) x e in
      let rows = a.0.0 in
      let end = a.0.1 in
      let b = bind_ok (number_at w16 r) (λ count. items_at (row_at version nodes) (λ (row : Row). Some row.origin) count.0 None count.1) (rows, end) a.1 in
      let tb = u16_takes r b.0 fits b.1 in
      let ta = items_takes (row_at version nodes) (λ (row : Row). Some row.origin) (row_bytes version) IsNext row_takes b.0.0 None b.0.1 (rows, end) tb.0.fits b.2 in
      let rising = rising_of origins_total (λ (row : Row). row.origin) (IsRow version nodes) None rows ta.1.1 in
      let same = rows_are rows rising in
      let counted : Takes r (u16_bytes (length rows)) b.0.1 = subst (λ (n : ℕ). Takes r (u16_bytes n) b.0.1) (sym ta.1.0) tb.0 in
      let both = Takes-then r (u16_bytes (length rows)) b.0.1 (flat_map (row_bytes version) rows) end counted ta.0 in
      let spelled : Takes r (context_bytes version (dots_in rows)) end = subst (λ (rows : List Row). Takes r (u16_bytes (length rows) ++ flat_map (row_bytes version) rows) end) (sym same) both in
      let len : length rows ≡ b.0.0 = ta.1.0 in
      let most : b.0.0 < 2 ^ 16 = tb.1 in
      let few : length rows < 2 ^ 16 = omega arith in
      let fit : CountsFit (dots_in rows) = record {
        origins = subst (λ (rows : List Row). length rows < 2 ^ 16) (sym same) few;
        further = subst (AllByRecursion (λ (row : Row). length row.further < 2 ^ 32)) (sym same) (counts rows rising.each);
      } in
      subst (λ (x : Dots × Rest). Takes r (context_bytes version x.0) x.1 × IsContext version nodes x.0) (ok_is (dots_in rows, end) x a.2) (spelled, (rows_in_range version nodes rows rising.each, fit))

  module _ (one_byte_each : nodes ≤ 2 ^ 8) where
    row_again : (before : Option Origin) (row : Row) → IsNext before row → Again (row_at version nodes before) (row_bytes version row) row
    unfolding row_at row_bytes least_count
    row_again before row h =
        let is = h.0 in
        let o = row.origin in
        let v = row.upto in
        let ns = row.further in
        let count = length ns in
        let few : count ≤ 2 ^ 32 - 1 = let p = is.count in omega arith in
        let further = Again-made (items_at further_at (λ n. n) count (v + 1)) (made o v) (flat_map u64_bytes ns) ns (items_again further_at (λ n. n) u64_bytes IsFurther further_again ns (v + 1) is.further) in
        let counted = Again-then (further_count_at v) (λ count. items_at further_at (λ n. n) count.0 (v + 1) count.1 >>= λ further. Ok (made o v further.0, further.1)) (u32_bytes count) (flat_map u64_bytes ns) count row
        (u32_in_again (least_count v) (2 ^ 32 - 1) (omega arith) count (count_least v count is.some) few) further in
        let upto = Again-then (range_at w64 0 MAX_COUNTER) (λ upto. further_count_at upto.0 upto.1 >>= λ count. items_at further_at (λ n. n) count.0 (upto.0 + 1) count.1 >>= λ further. Ok (made o upto.0 further.0, further.1)) (u64_bytes v) (u32_bytes count ++ flat_map u64_bytes ns) v row
        (u64_in_again 0 MAX_COUNTER (omega arith) v (omega arith) is.upto) counted in
        let read = Again-then (origin_above_at version nodes before) (λ origin. range_at w64 0 MAX_COUNTER origin.1 >>= λ upto. further_count_at upto.0 upto.1 >>= λ count. items_at further_at (λ n. n) count.0 (upto.0 + 1) count.1 >>= λ further. Ok (made origin.0 upto.0 further.0, further.1)) (origin_bytes version o) (u64_bytes v ++ (u32_bytes count ++ flat_map u64_bytes ns)) o row
        (origin_above_again version nodes one_byte_each before o is.origin h.1) upto in
        subst (λ (t : List ℕ). Again (row_at version nodes before) t row) (regroup (origin_bytes version o) (u64_bytes v) (u32_bytes count) (flat_map u64_bytes ns)) read

    -- A context in range is read from its spelling.
    pub context_again : (dots : Dots) → IsContext version nodes dots → Again (context_at version nodes) (context_bytes version dots) dots
    unfolding context_at rows_at context_bytes
    context_again dots is =
        let rows = rows_of dots in
        let tell = rows_tell dots in
        let each = are_rows dots version nodes is.0 rows tell.each is.1.further in
        let chain = chain_of origins_total (λ (row : Row). row.origin) (IsRow version nodes) None rows (record { each = each; rising = tell.rising; above = refl }) in
        let items = items_again (row_at version nodes) (λ (row : Row). Some row.origin) (row_bytes version) IsNext row_again rows None chain in
        let counted = Again-then (number_at w16) (λ count. items_at (row_at version nodes) (λ (row : Row). Some row.origin) count.0 None count.1) (u16_bytes (length rows)) (flat_map (row_bytes version) rows) (length rows) rows
        (u16_again (length rows) is.1.origins) items in
        let read = Again-made (rows_at version nodes) dots_in (context_bytes version dots) rows counted in
        subst (λ (d : Dots). Again (context_at version nodes) (context_bytes version dots) d) (dots_back dots) read
