-- The rows and dots of the entries of a context, and what a search for an origin tells of them.
use Rattle.std.proofs.Common.{◌≡◌, ℕ, zero, suc, ◌+◌, ◌≤◌, inl, inr, ◌||◌, ◌&&◌, Bool, true, false, nat_eq, nat_lt, nat_le, cond, T, List, [], ◌∷◌, ◌++◌, length, Option, None, Some, refl, sym, ap, ◌∙◌, subst, arith}
use Rattle.std.specs.FinSet as set
use Rattle.std.specs.FinMap.{find, put, is_sorted}
use Rattle.std.specs.FinMap.Entries.{below_all, find-put, is_sorted-put}
use Rattle.std.specs.List.{AllByRecursion, slice_get}
use Rattle.std.specs.Option.{option_map}
use Rattle.std.specs.Ordering.{nat_cmp, eq_by_cmp, is_eq, is_lt}
use Rattle.std.proofs.lemmas.Bool.{and_parts, and_from, or_cases, or_left, or_right, false≢true, true≢false, leb-true, le-leb}
use Rattle.std.proofs.lemmas.Cmp.{nat_cmp_total, tied_itself}
use Rattle.std.proofs.lemmas.Map.Lookups.{exact_unsigned}
use Rattle.std.proofs.lemmas.List.{length-map, map-append}
use Rattle.std.proofs.lemmas.List.Folds.{list_any-append}
use Rattle.std.proofs.lemmas.Option.{slice_get-map, slice_get_within, get_or_from_slice_get}
use Rattle.std.proofs.Math.Bool.{or-false}
use Rattle.dac_origins.specs.Keys.{IsRising, is_below_all, has_key}
use Rattle.dac_origins.specs.laws.InOrder.{tie, less, in_order-rising, has_key-in_order}
use Rattle.dac_origins.specs.Dots.{Dots, dot, dot_cmp, origin_cmp, IsVector}
use Rattle.dac_origins.specs.laws.Dots.{dots_total, exact_dots, origins_total, exact_origins}
use Rattle.dac_origins.specs.declared.dot.Origin.{Origin}
use Rattle.dac_origins.specs.declared.dot.Dot.{Dot}
use Rattle.dac_lattice.specs.Entries.{Combine, merge_entries}
use Rattle.dac_lattice.specs.Search.{IsInOrder, AtEachEntry}
use Rattle.dac_lattice.specs.laws.Entries.{find_merge, sorted_merge}
use Rattle.dac_lattice.specs.laws.EntryLaws.{first, second, each_key, each_entry}
use Rattle.dac_sorted.specs.Appending.{is_above_entries}
use Rattle.dac_sorted.specs.laws.Appending.{sorted_appended, find_appended}
use Rattle.dac_dots.specs.Rows.{Row, row_of, rows_of, reach_of, further_of, has_counter, any_row, origins, IsKept, HasSome, AreKept, EndBefore, CanFollow}
use Rattle.dac_dots.specs.Entries.{rows_at, dots_of, has_at, united, AreSome, AreRows}
use Rattle.dac_dots.specs.laws.CounterLaws.{is_eq-then, is_same, rising_filter, ends_there}
use Rattle.dac_dots.specs.laws.RowLaws.{counters_split, apart_of}
use Rattle.dac_dots.specs.laws.RowSets.{absent, contains-dots_in, kept_are, some_counter, some_length}

-- ---- the rows of entries

pub row_counter : (o : Origin) (ns : List ℕ) (n : ℕ) → has_counter (row_of o ns) n ≡ has_key nat_cmp ns n
row_counter o ns n = sym (counters_split ns n)

pub row_kept : (o : Origin) (ns : List ℕ) → IsRising nat_cmp ns → IsKept (row_of o ns)
row_kept o ns rising = record {
  rising = rising_filter (λ n. nat_lt (reach_of ns) n || nat_eq n 0) ns rising;
  apart = apart_of ns rising;
}

some_from : (row : Row) (n : ℕ) → has_counter row n ≡ true → HasSome row
some_from row n e = elim (or_cases (nat_le 1 n && nat_le n row.upto) (has_key nat_cmp row.further n) e) [
  | inl inside ↦
      let parts = and_parts (nat_le 1 n) (nat_le n row.upto) inside in
      let low : 1 ≤ n = leb-true 1 n parts.0 in
      let high : n ≤ row.upto = leb-true n row.upto parts.1 in
      inl (omega arith)
  | inr past ↦ inr (some_length row.further n past)
]

row_some : (o : Origin) (ns : List ℕ) → 1 ≤ length ns → HasSome (row_of o ns)
row_some o [] p = absurd (omega arith)
row_some o (n ∷ ns) p = some_from (row_of o (n ∷ ns)) n (row_counter o (n ∷ ns) n ∙ or_left _ _ (is_same n n refl))

holds : (b : Bool) → T b → b ≡ true
holds true p = refl
holds false p = absurd p

above_origins : (x : Origin) (es : List (Origin × List ℕ)) → T (below_all origin_cmp x es) → is_below_all origin_cmp x (origins (rows_at es)) ≡ true
above_origins x [] h = refl
above_origins x (e ∷ es) h = and_from _ _ (holds _ (first _ _ h)) (above_origins x es (second _ _ h))

each_kept : (es : List (Origin × List ℕ)) → AtEachEntry AreSome es → AllByRecursion (λ row. IsKept row × HasSome row) (rows_at es)
each_kept [] all = tt
each_kept (e ∷ es) all =
    let here : AreSome e.0 (Some e.1) = all 0 e (omega arith) in
    ((row_kept e.0 e.1 here.0, row_some e.0 e.1 here.1), each_kept es (λ i d p. all (suc i) d (omega arith)))

rising_origins : (es : List (Origin × List ℕ)) → IsInOrder origin_cmp es → IsRising origin_cmp (origins (rows_at es))
rising_origins [] h = refl
rising_origins (e ∷ es) h = and_from _ _ (above_origins e.0 es (first _ _ h)) (rising_origins es (second _ _ h))

pub rows_kept : (es : List (Origin × List ℕ)) → AreRows es → AreKept (rows_at es)
rows_kept es are = record { each = each_kept es are.each; rising = rising_origins es are.in_order }

past_end : (es : List (Origin × List ℕ)) (i : ℕ) → None ≡ slice_get es i → length es ≤ i
past_end [] i e = omega arith
past_end (x ∷ es) zero e = absurd cc
past_end (x ∷ es) (suc i) e = let rest = past_end es i e in omega (arith, rest)

-- a set's rows are those of the entries that represent it
module _ (es : List (Origin × List ℕ)) (dots : Dots) (view : dots_of es ≡ dots) (are : AreRows es) where
  pub rows_are : rows_of dots ≡ rows_at es
  rows_are = ap rows_of (sym view) ∙ kept_are (rows_at es) (rows_kept es are)

  pub rows_length : length (rows_of dots) ≡ length es
  rows_length = ap (λ (rows : List Row). length rows) rows_are ∙ length-map es (λ (e : Origin × List ℕ). row_of e.0 e.1)

  pub row_at : (i : ℕ) (e : Origin × List ℕ) → slice_get es i ≡ Some e → slice_get (rows_of dots) i ≡ Some (row_of e.0 e.1)
  row_at i e at =
      ap (λ (rows : List Row). slice_get rows i) rows_are
      ∙ slice_get-map (λ (e : Origin × List ℕ). row_of e.0 e.1) es i
      ∙ ap (option_map (λ (e : Origin × List ℕ). row_of e.0 e.1)) at

  pub no_row : (i : ℕ) → None ≡ slice_get es i → length (rows_of dots) ≤ i
  no_row i none = subst (λ n. n ≤ i) (sym rows_length) (past_end es i none)

  -- the counters of the entry at an index ascend, and there is at least one
  pub some_at : (i : ℕ) (e : Origin × List ℕ) → slice_get es i ≡ Some e → AreSome e.0 (Some e.1)
  some_at i e at = subst (λ (e : Origin × List ℕ). AreSome e.0 (Some e.1)) (get_or_from_slice_get es i e e at) (are.each i e (slice_get_within es i e at))

-- ---- the dots of entries

-- a dot is in the rows if its counter is among those at its origin
pub any_rows : (es : List (Origin × List ℕ)) → IsInOrder origin_cmp es → (o : Origin) (n : ℕ) → any_row (rows_at es) (dot o n) ≡ has_at n (find origin_cmp o es)
any_rows [] h o n = refl
any_rows (e ∷ es) h o n = elim (eq_by_cmp origin_cmp o e.0) as (λ t. eq_by_cmp origin_cmp o e.0 ≡ t → ((t && has_counter (row_of e.0 e.1) n) || any_row (rows_at es) (dot o n)) ≡ has_at n (cond t (Some e.1) (find origin_cmp o es))) [
  | true ↦ λ t.
      let same = exact_origins o e.0 (tie _ t) in
      let none = ap (λ o. any_row (rows_at es) (dot o n)) same ∙ absent e.0 n (rows_at es) (above_origins e.0 es (first _ _ h)) in
      ap (λ b. has_counter (row_of e.0 e.1) n || b) none ∙ or_none _ ∙ row_counter e.0 e.1 n
  | false ↦ λ t. any_rows es (second (below_all origin_cmp e.0 es) (is_sorted origin_cmp es) h) o n
] refl
  where
    or_none : (b : Bool) → (b || false) ≡ b
    or_none true = refl
    or_none false = refl

pub contains_at : (es : List (Origin × List ℕ)) → IsInOrder origin_cmp es → (q : Dot) → set.contains (dots_of es) q ≡ has_at q.n (find origin_cmp q.origin es)
contains_at es h q = contains-dots_in (rows_at es) q ∙ any_rows es h q.origin q.n

-- the merge that unites the counters of each origin makes the union
module _ (f : Combine Origin (List ℕ)) (unites : (o : Origin) (v w : Option (List ℕ)) (n : ℕ) → has_at n (f o v w) ≡ (has_at n v || has_at n w)) (nothing : (o : Origin) → f o None None ≡ None) where
  pub union_at : (xs ys : List (Origin × List ℕ)) → IsInOrder origin_cmp xs → IsInOrder origin_cmp ys → IsInOrder origin_cmp (merge_entries origin_cmp f xs ys)
      → dots_of (merge_entries origin_cmp f xs ys) ≡ set.union (dots_of xs) (dots_of ys)
  union_at xs ys g h both = set.same_set dots_total exact_dots _ _ (λ q.
      contains_at (merge_entries origin_cmp f xs ys) both q
      ∙ ap (has_at q.n) (find_merge origins_total exact_origins f nothing q.origin xs ys g h)
      ∙ unites q.origin (find origin_cmp q.origin xs) (find origin_cmp q.origin ys) q.n
      ∙ sym (λ i. contains_at xs g q i || contains_at ys h q i)
      ∙ sym (set.contains-union dots_total (dots_of xs) (dots_of ys) q))

is_dot : (q d : Dot) (b : Bool) → (eq_by_cmp dot_cmp q d || b) ≡ ((eq_by_cmp origin_cmp q.origin d.origin && eq_by_cmp nat_cmp q.n d.n) || b)
is_dot q d b = ap (λ t. t || b) (is_eq-then (origin_cmp q.origin d.origin) (nat_cmp q.n d.n))

-- counters put at an origin, those before and a new one, make the set with that dot
pub put_at : (es : List (Origin × List ℕ)) (d : Dot) (ms : List ℕ) → IsInOrder origin_cmp es → IsInOrder origin_cmp (put origin_cmp d.origin ms es)
    → ((n : ℕ) → has_key nat_cmp ms n ≡ (eq_by_cmp nat_cmp n d.n || has_at n (find origin_cmp d.origin es)))
    → dots_of (put origin_cmp d.origin ms es) ≡ set.insert (dots_of es) d
put_at es d ms h new more = set.same_set dots_total exact_dots _ _ (λ q.
    contains_at (put origin_cmp d.origin ms es) new q
    ∙ ap (has_at q.n) (find-put origin_cmp origins_total q.origin d.origin ms es)
    ∙ at q
    ∙ sym (is_dot q d (has_at q.n (find origin_cmp q.origin es)))
    ∙ ap (λ b. eq_by_cmp dot_cmp q d || b) (sym (contains_at es h q))
    ∙ sym (set.contains-insert dots_total (dots_of es) d q))
  where
    at : (q : Dot) → has_at q.n (cond (eq_by_cmp origin_cmp q.origin d.origin) (Some ms) (find origin_cmp q.origin es)) ≡ ((eq_by_cmp origin_cmp q.origin d.origin && eq_by_cmp nat_cmp q.n d.n) || has_at q.n (find origin_cmp q.origin es))
    at q = elim (eq_by_cmp origin_cmp q.origin d.origin) as (λ t. eq_by_cmp origin_cmp q.origin d.origin ≡ t → has_at q.n (cond t (Some ms) (find origin_cmp q.origin es)) ≡ ((t && eq_by_cmp nat_cmp q.n d.n) || has_at q.n (find origin_cmp q.origin es))) [
      | true ↦ λ t. more q.n ∙ ap (λ o. eq_by_cmp nat_cmp q.n d.n || has_at q.n (find origin_cmp o es)) (sym (exact_origins q.origin d.origin (tie _ t)))
      | false ↦ λ t. refl
    ] refl

-- ---- changed entries

-- the counters at each key ascend, and there is at least one
pub some_there : (es : List (Origin × List ℕ)) → AreRows es → (o : Origin) → AreSome o (find origin_cmp o es)
some_there es are = each_key origins_total exact_origins AreSome (λ _. tt) es are.each

pub rows_put : (es : List (Origin × List ℕ)) (o : Origin) (ns : List ℕ) → AreRows es → AreSome o (Some ns) → AreRows (put origin_cmp o ns es)
rows_put es o ns are some =
    let h = is_sorted-put origin_cmp origins_total o ns es are.in_order in
    record {
      in_order = h;
      each = each_entry origins_total exact_origins AreSome (put origin_cmp o ns es) h (λ q. subst (AreSome q) (sym (find-put origin_cmp origins_total q o ns es)) (at q));
    }
  where
    at : (q : Origin) → AreSome q (cond (eq_by_cmp origin_cmp q o) (Some ns) (find origin_cmp q es))
    at q = elim (eq_by_cmp origin_cmp q o) as (λ t. AreSome q (cond t (Some ns) (find origin_cmp q es))) [ true ↦ some | false ↦ some_there es are q ]

pub rows_pushed : (es : List (Origin × List ℕ)) (o : Origin) (ns : List ℕ) → AreRows es → is_above_entries origin_cmp es o ≡ true → AreSome o (Some ns) → AreRows (es ++ (o, ns) ∷ [])
rows_pushed es o ns are above some =
    let h = sorted_appended origins_total es (o, ns) are.in_order above in
    record {
      in_order = h;
      each = each_entry origins_total exact_origins AreSome (es ++ (o, ns) ∷ []) h (λ q. find_appended origins_total (AreSome q) es (o, ns) q (some_there es are q) some);
    }

-- an origin is above those of the entries exactly if their rows end before it
pub ends_before : (es : List (Origin × List ℕ)) (o : Origin) → is_above_entries origin_cmp es o ≡ true → EndBefore (rows_at es) o
ends_before [] o above x e = absurd (false≢true e)
ends_before (y ∷ es) o above x e = elim (or_cases (eq_by_cmp origin_cmp x y.0) (has_key origin_cmp (origins (rows_at es)) x) e) [
  | inl at ↦ ap (λ z. origin_cmp z o) (exact_origins x y.0 (tie _ at)) ∙ less _ (and_parts _ _ above).0
  | inr past ↦ ends_before es o (and_parts _ _ above).1 x past
]

pub above_from : (es : List (Origin × List ℕ)) (o : Origin) → EndBefore (rows_at es) o → is_above_entries origin_cmp es o ≡ true
above_from [] o h = refl
above_from (y ∷ es) o h = and_from _ _ (ap is_lt (h y.0 (or_left _ _ (ap is_eq (tied_itself origins_total y.0))))) (above_from es o (λ x e. h x (or_right _ _ e)))

-- counters with the parts of a row that can follow are appended
module _ (es : List (Origin × List ℕ)) (dots : Dots) (view : dots_of es ≡ dots) (are : AreRows es) (o : Origin) (upto : ℕ) (further ns : List ℕ) (can : CanFollow (rows_of dots) (record { origin = o; upto = upto; further = further })) (rising : IsRising nat_cmp ns) (goes : reach_of ns ≡ upto) (rest : further_of upto ns ≡ further) where
  abbrev pushed : Row
  pushed = record { origin = o; upto = upto; further = further }

  row_is : row_of o ns ≡ pushed
  row_is = ap (λ u. record { origin = o; upto = u; further = further_of u ns }) goes ∙ ap (λ ks. record { origin = o; upto = upto; further = ks }) rest

  some_pushed : AreSome o (Some ns)
  some_pushed =
      let found = some_counter pushed can.some in
      (rising, some_length ns found.0 (sym (row_counter o ns found.0) ∙ ap (λ (row : Row). has_counter row found.0) row_is ∙ found.1))

  pub above_all : is_above_entries origin_cmp es o ≡ true
  above_all = above_from es o (subst (λ (rows : List Row). EndBefore rows o) (rows_are es dots view are) can.above)

  pub pushed_kept : AreRows (es ++ (o, ns) ∷ [])
  pushed_kept = rows_pushed es o ns are above_all some_pushed

  pub pushed_are : rows_of (dots_of (es ++ (o, ns) ∷ [])) ≡ rows_of dots ++ pushed ∷ []
  pushed_are =
      rows_are (es ++ (o, ns) ∷ []) (dots_of (es ++ (o, ns) ∷ [])) refl pushed_kept
      ∙ map-append (λ (e : Origin × List ℕ). row_of e.0 e.1) es ((o, ns) ∷ [])
      ∙ (λ i. sym (rows_are es dots view are) i ++ row_is i ∷ [])

-- the counters of both, if any, are united
pub united_has : (v w : Option (List ℕ)) (n : ℕ) → has_at n (united v w) ≡ (has_at n v || has_at n w)
united_has None w n = refl
united_has (Some mine) None n = sym (or-false (has_key nat_cmp mine n))
united_has (Some mine) (Some theirs) n =
    has_key-in_order nat_cmp_total exact_unsigned (set.from_list (mine ++ theirs)) n
    ∙ set.contains-from_list nat_cmp_total (mine ++ theirs) n
    ∙ list_any-append (eq_by_cmp nat_cmp n) mine theirs

united_some : (o : Origin) (v w : Option (List ℕ)) → AreSome o v → AreSome o w → AreSome o (united v w)
united_some o None w g h = h
united_some o (Some mine) None g h = g
united_some o (Some []) (Some theirs) g h = absurd (let p = g.1 in omega (arith, p))
united_some o (Some (n ∷ mine)) (Some theirs) g h = (
  in_order-rising nat_cmp_total exact_unsigned (set.from_list ((n ∷ mine) ++ theirs)),
  some_length _ n (united_has (Some (n ∷ mine)) (Some theirs) n ∙ or_left _ _ (or_left _ _ (is_same n n refl))),
)

-- the merge of entries that unites their counters represents the union
module _ (xs ys : List (Origin × List ℕ)) (g : AreRows xs) (h : AreRows ys) where
  pub rows_united : AreRows (merge_entries origin_cmp (λ _. united) xs ys)
  rows_united =
      let both = sorted_merge origins_total exact_origins (λ _. united) xs ys g.in_order h.in_order in
      record {
        in_order = both;
        each = each_entry origins_total exact_origins AreSome _ both (λ q. subst (AreSome q) (sym (find_merge origins_total exact_origins (λ _. united) (λ _. refl) q xs ys g.in_order h.in_order)) (united_some q (find origin_cmp q xs) (find origin_cmp q ys) (some_there xs g q) (some_there ys h q)));
      }

  pub dots_united : dots_of (merge_entries origin_cmp (λ _. united) xs ys) ≡ set.union (dots_of xs) (dots_of ys)
  dots_united = union_at (λ _. united) (λ _. united_has) (λ _. refl) xs ys g.in_order h.in_order rows_united.in_order

-- ---- properties of all dots

-- each of the counters, if any, is in the set
abbrev pub AreIn : Dots → Origin → Option (List ℕ) → Type 0
AreIn dots o v = (n : ℕ) → has_at n v ≡ true → set.contains dots (dot o n) ≡ true

-- the counters, if any, are 1 to some number
abbrev pub AreFull : Origin → Option (List ℕ) → Type 0
AreFull o v = (n : ℕ) → has_at n v ≡ true → (1 ≤ n) × ((m : ℕ) → 1 ≤ m → m ≤ n → has_at m v ≡ true)

module _ (es : List (Origin × List ℕ)) (h : IsInOrder origin_cmp es) where
  pub vector_from : AtEachEntry AreFull es → IsVector (dots_of es)
  vector_from all o n e =
      let full = each_key origins_total exact_origins AreFull (λ o n e. absurd (false≢true e)) es all o n (sym (contains_at es h (dot o n)) ∙ e) in
      (full.0, λ m p q. contains_at es h (dot o m) ∙ full.1 m p q)

no_key : (ns : List ℕ) (n : ℕ) → length ns ≡ 0 → has_key nat_cmp ns n ≡ false
no_key [] n e = refl
no_key (x ∷ ns) n e = absurd (omega arith)

-- without further counters there is no gap
pub full_without : (o : Origin) (ns : List ℕ) → length (further_of (reach_of ns) ns) ≡ 0 → AreFull o (Some ns)
full_without o ns none n e = elim (or_cases (nat_le 1 n && nat_le n (reach_of ns)) (has_key nat_cmp (further_of (reach_of ns) ns) n) (sym (counters_split ns n) ∙ e)) [
  | inl inside ↦
      let range = and_parts (nat_le 1 n) (nat_le n (reach_of ns)) inside in
      let low : 1 ≤ n = leb-true 1 n range.0 in
      let high : n ≤ reach_of ns = leb-true n (reach_of ns) range.1 in
      (low, λ m p q. counters_split ns m ∙ or_left _ _ (and_from _ _ (le-leb 1 m p) (le-leb m (reach_of ns) (omega arith))))
  | inr past ↦ absurd (false≢true (sym (no_key (further_of (reach_of ns) ns) n none) ∙ past))
]

-- with further counters there is one
pub not_full : (o : Origin) (ns : List ℕ) → IsRising nat_cmp ns → 1 ≤ length (further_of (reach_of ns) ns) → AreFull o (Some ns) → ⊥
not_full o ns rising some full = from (further_of (reach_of ns) ns) refl some
  where
    at_key : (k : ℕ) → has_key nat_cmp (further_of (reach_of ns) ns) k ≡ true → ⊥
    at_key k e =
        let before = full k (counters_split ns k ∙ or_right _ _ e) in
        elim (apart_of ns rising k e) [
          | inl none ↦ let low = before.0 in omega arith
          | inr past ↦ true≢false (sym (before.1 (reach_of ns + 1) (omega arith) (omega arith)) ∙ ends_there 0 ns rising)
        ]

    from : (ks : List ℕ) → further_of (reach_of ns) ns ≡ ks → 1 ≤ length ks → ⊥
    from [] is p = omega arith
    from (x ∷ ks) is p = at_key x (ap (λ (ks : List ℕ). has_key nat_cmp ks x) is ∙ or_left _ _ (is_same x x refl))
