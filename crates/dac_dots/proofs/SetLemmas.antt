-- The set of the dots of entries, where each origin has its counters.
use Rattle.std.proofs.Common.{◌≡◌, ℕ, suc, ◌+◌, ◌-◌, ◌<◌, ◌≤◌, ◌⊎◌, inl, inr, Bool, true, false, cond, ◌||◌, ◌&&◌, T, List, [], ◌∷◌, ◌++◌, get_or, length, map, Option, None, Some, refl, sym, ap, ◌∙◌, subst, arith, length-append}
use Rattle.std.specs.declared.cmp.Ordering.TheVariants.{Less}
use Rattle.std.specs.Ordering.{nat_cmp, eq_by_cmp, is_eq, is_lt, ordering_then}
use Rattle.std.specs.FinSet as set
use Rattle.std.specs.FinMap.{find, put, is_sorted}
use Rattle.std.specs.FinMap.Entries.{below_all}
use Rattle.std.specs.List.{list_any}
use Rattle.std.proofs.lemmas.Bool.{and_parts, and_from, or_left, false≢true, cases_lt}
use Rattle.std.proofs.lemmas.Cmp.{tied_itself, nat_cmp_total}
use Rattle.std.proofs.lemmas.List.{length-map}
use Rattle.std.proofs.lemmas.List.Folds.{list_any-append}
use Rattle.std.proofs.lemmas.Map.Lookups.{exact_unsigned}
use Rattle.std.proofs.Math.Bool.{or-false, or_comm}
use Rattle.dac_base.specs.declared.limits.TheConstants.{MAX_COUNTER}
use Rattle.dac_origins.specs.Keys.{is_below_all, is_rising, IsRising, has_key}
use Rattle.dac_origins.specs.InOrder.{in_order}
use Rattle.dac_origins.specs.laws.InOrder.{tie, in_order-rising, in_order-one, same_rising}
use Rattle.dac_origins.specs.laws.KeyLaws.{len_rising}
use Rattle.dac_origins.specs.Dots.{Dots, dot, dot_cmp, origin_cmp, IsSubset, IsNext, IsUsedUp, IsVector}
use Rattle.dac_origins.specs.laws.Dots.{dots_total, exact_dots, origins_total, exact_origins}
use Rattle.dac_origins.specs.declared.dot.Origin.{Origin}
use Rattle.dac_origins.specs.declared.dot.Dot.{Dot}
use Rattle.dac_lattice.specs.Search.{IsInOrder, AtEachKey}
use Rattle.dac_lattice.specs.laws.EntryLaws.{first, second, less as below, greater, find_at}
use Rattle.dac_sorted.specs.Digests.{SaysAll}
use Rattle.dac_dots.specs.Entries.{AreRows, AreSome, counted, dots_of, has_at, rows_at, united}
use Rattle.dac_dots.specs.Rows.{IsGreatest, any_row, further_of, reach_of}
use Rattle.dac_dots.specs.laws.CounterLaws.{is_same}
use Rattle.dac_dots.specs.laws.EntryRows.{AreIn, contains_at, full_without, not_full, put_at, row_counter, rows_put, some_there, united_has as has_both, vector_from}
use Rattle.dac_dots.specs.laws.RowSets.{contains-dots_in, has_dots, some_length}

-- ---- the dots of entries, without a search

-- whether any of the entries has the dot
abbrev pub any_at : List (Origin × List ℕ) → Dot → Bool
any_at es q = list_any (λ (e : Origin × List ℕ). eq_by_cmp origin_cmp q.origin e.0 && has_key nat_cmp e.1 q.n) es

any_rows_at : (es : List (Origin × List ℕ)) (q : Dot) → any_row (rows_at es) q ≡ any_at es q
any_rows_at [] q = refl
any_rows_at (e ∷ es) q = λ i. (eq_by_cmp origin_cmp q.origin e.0 && row_counter e.0 e.1 q.n i) || any_rows_at es q i

pub contains_any : (es : List (Origin × List ℕ)) (dots : Dots) → dots_of es ≡ dots → (q : Dot) → set.contains dots q ≡ any_at es q
contains_any es dots view q = ap (λ (dots : Dots). set.contains dots q) (sym view) ∙ contains-dots_in (rows_at es) q ∙ any_rows_at es q

-- ---- no entries

pub no_dots : dots_of [] ≡ set.empty
no_dots = set.same_set dots_total exact_dots (dots_of []) set.empty (λ q. contains_any [] (dots_of []) refl q ∙ sym (set.contains-empty dot_cmp q))

no_entries : (es : List (Origin × List ℕ)) (q : Dot) → length es ≡ 0 → any_at es q ≡ false
no_entries [] q p = refl
no_entries (e ∷ es) q p = absurd (omega arith)

module _ (es : List (Origin × List ℕ)) (dots : Dots) (view : dots_of es ≡ dots) (none : length es ≡ 0) (other : Dots) where
  pub adds_nothing_first : other ≡ set.union dots other
  adds_nothing_first = sym (set.same_set dots_total exact_dots (set.union dots other) other (λ q.
      set.contains-union dots_total dots other q ∙ ap (λ b. b || set.contains other q) (contains_any es dots view q ∙ no_entries es q none)))

  pub adds_nothing_second : other ≡ set.union other dots
  adds_nothing_second = sym (set.same_set dots_total exact_dots (set.union other dots) other (λ q.
      set.contains-union dots_total other dots q ∙ ap (λ b. set.contains other q || b) (contains_any es dots view q ∙ no_entries es q none) ∙ or-false (set.contains other q)))

-- ---- inserting a dot that is there

pub there_already : (dots : Dots) (d : Dot) → set.contains dots d ≡ true → dots ≡ set.insert dots d
there_already dots d there = set.same_set dots_total exact_dots dots (set.insert dots d) (λ q. has q ∙ sym (set.contains-insert dots_total dots d q))
  where
    has : (q : Dot) → set.contains dots q ≡ (eq_by_cmp dot_cmp q d || set.contains dots q)
    has q = elim (eq_by_cmp dot_cmp q d) as (λ b. eq_by_cmp dot_cmp q d ≡ b → set.contains dots q ≡ (b || set.contains dots q)) [
      | true ↦ λ e. ap (λ (x : Dot). set.contains dots x) (exact_dots q d (tie _ e)) ∙ there
      | false ↦ λ _. refl
    ] refl

-- ---- the union

united_has : (mine theirs : List ℕ) (n : ℕ) → has_key nat_cmp (in_order (set.from_list {R = nat_cmp} (mine ++ theirs))) n ≡ (has_key nat_cmp mine n || has_key nat_cmp theirs n)
united_has mine theirs n = has_both (Some mine) (Some theirs) n

-- ascending counters that are those of both are their union
pub united_is : (mine theirs both : List ℕ) → IsRising nat_cmp both → ((n : ℕ) → has_key nat_cmp both n ≡ (has_key nat_cmp theirs n || has_key nat_cmp mine n)) → ◌≡◌ {A = Option (List ℕ)} (Some both) (united (Some mine) (Some theirs))
united_is mine theirs both rising has = ap Some (same_rising nat_cmp_total exact_unsigned both _ rising (in_order-rising nat_cmp_total exact_unsigned (set.from_list (mine ++ theirs)))
    (λ n. has n ∙ or_comm (has_key nat_cmp theirs n) (has_key nat_cmp mine n) ∙ sym (united_has mine theirs n)))

-- counters stay if they contain all others
pub united_stays : (mine theirs : List ℕ) → IsRising nat_cmp mine → ((n : ℕ) → has_key nat_cmp theirs n ≡ true → has_key nat_cmp mine n ≡ true) → united (Some mine) (Some theirs) ≡ Some mine
united_stays mine theirs rising within = sym (united_is mine theirs mine rising (λ n. absorbs (has_key nat_cmp theirs n) (has_key nat_cmp mine n) (within n)))
  where
    absorbs : (a b : Bool) → (a ≡ true → b ≡ true) → b ≡ (a || b)
    absorbs a b f = grind arith

-- ---- entries that a loop passes

-- P holds at each key of the whole list if it does at those of the rest
pub record ArePassed (P : Origin → Option (List ℕ) → Type 0) (whole rest : List (Origin × List ℕ)) : Type 0 where
  pub in_order : IsInOrder origin_cmp rest
  pub same : (o : Origin) (ns : List ℕ) → find origin_cmp o rest ≡ Some ns → find origin_cmp o whole ≡ Some ns
  pub each : AtEachKey origin_cmp P rest → AtEachKey origin_cmp P whole

-- a key that is found is above one that is below all
found_above : (x o : Origin) (ns : List ℕ) (es : List (Origin × List ℕ)) → T (below_all origin_cmp x es) → find origin_cmp o es ≡ Some ns → origin_cmp x o ≡ Less
found_above x o ns [] h e = absurd cc
found_above x o ns (y ∷ es) h e = elim (eq_by_cmp origin_cmp o y.0) as (λ t. eq_by_cmp origin_cmp o y.0 ≡ t → cond t (Some y.1) (find origin_cmp o es) ≡ Some ns → origin_cmp x o ≡ Less) [
  | true ↦ λ t _. ap (origin_cmp x) (exact_origins o y.0 (tie _ t)) ∙ below (origin_cmp x y.0) (first _ _ h)
  | false ↦ λ t e. found_above x o ns es (second _ _ h) e
] refl e

not_tied : (x o : Origin) → origin_cmp x o ≡ Less → eq_by_cmp origin_cmp o x ≡ false
not_tied x o p = ap is_eq (greater origins_total x o p)

pub found_later : (e : Origin × List ℕ) (es : List (Origin × List ℕ)) → IsInOrder origin_cmp (e ∷ es) → (o : Origin) (ns : List ℕ) → find origin_cmp o es ≡ Some ns → is_lt (origin_cmp o e.0) ≡ false
found_later e es h o ns at = ap is_lt (greater origins_total e.0 o (found_above e.0 o ns es (first _ _ h) at))

found_after : (e : Origin × List ℕ) (es : List (Origin × List ℕ)) → IsInOrder origin_cmp (e ∷ es) → (o : Origin) (ns : List ℕ) → find origin_cmp o es ≡ Some ns → find origin_cmp o (e ∷ es) ≡ Some ns
found_after e es h o ns at = ap (λ t. cond t (Some e.1) (find origin_cmp o es)) (not_tied e.0 o (found_above e.0 o ns es (first _ _ h) at)) ∙ at

found_first : (e : Origin × List ℕ) (es : List (Origin × List ℕ)) → find origin_cmp e.0 (e ∷ es) ≡ Some e.1
found_first e es = ap (λ r. cond (is_eq r) (Some e.1) (find origin_cmp e.0 es)) (tied_itself origins_total e.0)

module _ (P : Origin → Option (List ℕ) → Type 0) (whole : List (Origin × List ℕ)) where
  module _ (e : Origin × List ℕ) (old rest : List (Origin × List ℕ)) (parted : old ≡ e ∷ rest) (passed : ArePassed P whole old) where
    pub passed_first : find origin_cmp e.0 whole ≡ Some e.1
    passed_first = passed.same e.0 e.1 (ap (find origin_cmp e.0) parted ∙ found_first e rest)

    pub passed_order : IsInOrder origin_cmp (e ∷ rest)
    passed_order = subst (IsInOrder origin_cmp) parted passed.in_order

    pub passed_more : P e.0 (Some e.1) → ArePassed P whole rest
    passed_more here = record {
      in_order = second (below_all origin_cmp e.0 rest) (is_sorted origin_cmp rest) passed_order;
      same = λ o ns at. passed.same o ns (ap (find origin_cmp o) parted ∙ found_after e rest passed_order o ns at);
      each = λ all. passed.each (subst (AtEachKey origin_cmp P) (sym parted) (λ k. elim (eq_by_cmp origin_cmp k e.0) as (λ t. eq_by_cmp origin_cmp k e.0 ≡ t → P k (cond t (Some e.1) (find origin_cmp k rest))) [
        | true ↦ λ t. subst (λ o. P o (Some e.1)) (sym (exact_origins k e.0 (tie _ t))) here
        | false ↦ λ t. all k
      ] refl));
    }

  pub passed_all : (old : List (Origin × List ℕ)) → old ≡ [] → ((o : Origin) → P o None) → ArePassed P whole old → AtEachKey origin_cmp P whole
  passed_all old none nothing passed = passed.each (subst (AtEachKey origin_cmp P) (sym none) nothing)

-- ---- the next dot

-- `last` is the greatest counter of the origin, or 0 if it has none
pub record IsLastIn (dots : Dots) (o : Origin) (last : ℕ) : Type 0 where
  pub above : (n : ℕ) → set.contains dots (dot o n) ≡ true → n ≤ last
  pub there : (last ≡ 0) ⊎ (set.contains dots (dot o last) ≡ true)

module _ (dots : Dots) (o : Origin) (last : ℕ) where
  pub next_is : IsLastIn dots o last → last < MAX_COUNTER → IsNext dots o (dot o (last + 1))
  next_is is low = record {
    same_origin = refl;
    above = λ n e. let h = is.above n e in omega arith;
    tight = elim is.there [ inl none ↦ inl (omega arith) | inr at ↦ inr (let back : last + 1 - 1 ≡ last = omega arith in subst (λ k. set.contains dots (dot o k) ≡ true) (sym back) at) ];
    at_most = omega arith;
  }

  pub used_up : IsLastIn dots o last → MAX_COUNTER ≤ last → IsUsedUp dots o
  used_up is high = elim is.there [ inl none ↦ absurd (omega arith) | inr at ↦ record { n = last; there = at; high = high } ]

-- ---- a search for an origin

first_key : (ns : List ℕ) → 1 ≤ length ns → (n : ℕ) × (has_key nat_cmp ns n ≡ true)
first_key [] p = absurd (omega arith)
first_key (x ∷ ns) p = (x, or_left _ _ (is_same x x refl))

module _ (es : List (Origin × List ℕ)) (dots : Dots) (view : dots_of es ≡ dots) (is : AreRows es) where
  pub contains_found : (q : Dot) → set.contains dots q ≡ has_at q.n (find origin_cmp q.origin es)
  contains_found q = ap (λ (dots : Dots). set.contains dots q) (sym view) ∙ contains_at es is.in_order q

  pub contains_there : (o : Origin) (ns : List ℕ) → find origin_cmp o es ≡ Some ns → (n : ℕ) → set.contains dots (dot o n) ≡ has_key nat_cmp ns n
  contains_there o ns at n = contains_found (dot o n) ∙ ap (has_at n) at

  pub contains_none : (o : Origin) → find origin_cmp o es ≡ None → (n : ℕ) → set.contains dots (dot o n) ≡ false
  contains_none o at n = contains_found (dot o n) ∙ ap (has_at n) at

  pub within_all : (other : Dots) → AtEachKey origin_cmp (AreIn other) es → IsSubset dots other
  within_all other all q e = all q.origin q.n (sym (contains_found q) ∙ e)

  -- an origin of which the other set has nothing
  pub not_within : (o : Origin) (ns : List ℕ) → find origin_cmp o es ≡ Some ns → (other : Dots) → ((n : ℕ) → set.contains other (dot o n) ≡ false) → IsSubset dots other → ⊥
  not_within o ns at other none within =
      let found = first_key ns (subst (AreSome o) at (some_there es is o)).1 in
      false≢true (sym (none found.0) ∙ within (dot o found.0) (contains_there o ns at found.0 ∙ found.1))

  -- without gaps the set is a version vector, and a version vector has none
  pub vector_all : SaysAll (λ _ ns. length (further_of (reach_of ns) ns) ≡ 0) es → IsVector dots
  vector_all none = subst IsVector view (vector_from es is.in_order (λ i d p. full_without (get_or es i d).0 (get_or es i d).1 (none i d p)))

  pub vector_none : IsVector dots → SaysAll (λ _ ns. length (further_of (reach_of ns) ns) ≡ 0) es
  vector_none vector i d p =
      let o = (get_or es i d).0 in
      let ns = (get_or es i d).1 in
      let at : find origin_cmp o es ≡ Some ns = find_at origins_total exact_origins es i d is.in_order p in
      elim (cases_lt 0 (length (further_of (reach_of ns) ns))) [
        | inl some ↦ absurd (not_full o ns (is.each i d p).0 some (λ n e. let full = vector o n (contains_there o ns at n ∙ e) in (full.0, λ m p q. sym (contains_there o ns at m) ∙ full.1 m p q)))
        | inr none ↦ omega arith
      ]

  pub last_found : (o : Origin) (ns : List ℕ) (last : ℕ) → find origin_cmp o es ≡ Some ns → IsGreatest ns last → IsLastIn dots o last
  last_found o ns last at is_last = record {
    above = λ n e. is_last.above n (sym (contains_there o ns at n) ∙ e);
    there = elim is_last.there [ inl none ↦ inl none | inr some ↦ inr (contains_there o ns at last ∙ some) ];
  }

  pub last_none : (o : Origin) (last : ℕ) → find origin_cmp o es ≡ None → last ≡ 0 → IsLastIn dots o last
  last_none o last at none = record { above = λ n e. absurd (false≢true (sym (contains_none o at n) ∙ e)); there = inl none }

-- ---- counters that are put at an origin

-- the counters are those at the dot's origin in the old entries, and the dot's; `now` are the same entries
pub record IsPutAt (es now : List (Origin × List ℕ)) (d : Dot) (ms : List ℕ) : Type 0 where
  pub same : now ≡ es
  pub rising : IsRising nat_cmp ms
  pub has : (n : ℕ) → has_key nat_cmp ms n ≡ (eq_by_cmp nat_cmp n d.n || has_at n (find origin_cmp d.origin es))

module _ (es now : List (Origin × List ℕ)) (d : Dot) (ms more : List ℕ) (same : now ≡ es) (are : ms ≡ more) where
  pub put_there : (ns : List ℕ) → find origin_cmp d.origin es ≡ Some ns → IsRising nat_cmp more → ((n : ℕ) → has_key nat_cmp more n ≡ (eq_by_cmp nat_cmp n d.n || has_key nat_cmp ns n)) → IsPutAt es now d ms
  put_there ns at rising has = record {
    same = same;
    rising = subst (IsRising nat_cmp) (sym are) rising;
    has = λ n. ap (λ ks. has_key nat_cmp ks n) are ∙ has n ∙ ap (λ v. eq_by_cmp nat_cmp n d.n || has_at n v) (sym at);
  }

  pub put_first : find origin_cmp d.origin es ≡ None → more ≡ d.n ∷ [] → IsPutAt es now d ms
  put_first none one =
      let is = are ∙ one in
      record {
        same = same;
        rising = subst (IsRising nat_cmp) (sym is) refl;
        has = λ n. ap (λ ks. has_key nat_cmp ks n) is ∙ ap (λ v. eq_by_cmp nat_cmp n d.n || has_at n v) (sym none);
      }

module _ (es now : List (Origin × List ℕ)) (d : Dot) (ms : List ℕ) (is : AreRows es) (made : IsPutAt es now d ms) where
  some_put : AreSome d.origin (Some ms)
  some_put = (made.rising, some_length ms d.n (made.has d.n ∙ or_left _ _ (is_same d.n d.n refl)))

  pub put_kept : AreRows (put origin_cmp d.origin ms now)
  put_kept = subst (λ es. AreRows (put origin_cmp d.origin ms es)) (sym made.same) (rows_put es d.origin ms is some_put)

  pub put_dots : (dots : Dots) → dots_of es ≡ dots → dots_of (put origin_cmp d.origin ms now) ≡ set.insert dots d
  put_dots dots view =
      ap (λ es. dots_of (put origin_cmp d.origin ms es)) made.same
      ∙ put_at es d ms is.in_order (rows_put es d.origin ms is some_put).in_order made.has
      ∙ ap (λ (dots : Dots). set.insert dots d) view

-- ---- all dots, in order

-- the dots of the entries, origin by origin
abbrev pub listed : List (Origin × List ℕ) → List Dot
listed [] = []
listed (e ∷ es) = map (dot e.0) e.1 ++ listed es

has_listed : (es : List (Origin × List ℕ)) (q : Dot) → has_key dot_cmp (listed es) q ≡ any_at es q
has_listed [] q = refl
has_listed (e ∷ es) q = list_any-append (eq_by_cmp dot_cmp q) (map (dot e.0) e.1) (listed es) ∙ (λ i. has_dots e.0 e.1 q i || has_listed es q i)

length_listed : (es : List (Origin × List ℕ)) → length (listed es) ≡ counted es
length_listed [] = refl
length_listed (e ∷ es) = length-append (map (dot e.0) e.1) (listed es) ∙ (λ i. length-map e.1 (dot e.0) i + length_listed es i)

below_append : (x : Dot) (xs ys : List Dot) → is_below_all dot_cmp x xs ≡ true → is_below_all dot_cmp x ys ≡ true → is_below_all dot_cmp x (xs ++ ys) ≡ true
below_append x [] ys g h = h
below_append x (y ∷ xs) ys g h = and_from _ _ (and_parts _ _ g).0 (below_append x xs ys (and_parts _ _ g).1 h)

-- dots of one origin are in the order of their counters
below_own : (o : Origin) (n : ℕ) (ns : List ℕ) → is_below_all nat_cmp n ns ≡ true → is_below_all dot_cmp (dot o n) (map (dot o) ns) ≡ true
below_own o n [] h = refl
below_own o n (m ∷ ns) h = and_from _ _ (ap (λ r. is_lt (ordering_then r (nat_cmp n m))) (tied_itself origins_total o) ∙ (and_parts _ _ h).0) (below_own o n ns (and_parts _ _ h).1)

below_origin : (o x : Origin) (n : ℕ) (ns : List ℕ) → origin_cmp o x ≡ Less → is_below_all dot_cmp (dot o n) (map (dot x) ns) ≡ true
below_origin o x n [] p = refl
below_origin o x n (m ∷ ns) p = and_from _ _ (ap (λ r. is_lt (ordering_then r (nat_cmp n m))) p) (below_origin o x n ns p)

below_listed : (o : Origin) (n : ℕ) (es : List (Origin × List ℕ)) → T (below_all origin_cmp o es) → is_below_all dot_cmp (dot o n) (listed es) ≡ true
below_listed o n [] h = refl
below_listed o n (e ∷ es) h = below_append (dot o n) (map (dot e.0) e.1) (listed es) (below_origin o e.0 n e.1 (below (origin_cmp o e.0) (first _ _ h))) (below_listed o n es (second _ _ h))

rising_own : (o : Origin) (ns : List ℕ) (ds : List Dot) → IsRising nat_cmp ns → ((n : ℕ) → is_below_all dot_cmp (dot o n) ds ≡ true) → IsRising dot_cmp ds → IsRising dot_cmp (map (dot o) ns ++ ds)
rising_own o [] ds g h is = is
rising_own o (n ∷ ns) ds g h is =
    let parts = and_parts (is_below_all nat_cmp n ns) (is_rising nat_cmp ns) g in
    and_from _ _ (below_append (dot o n) (map (dot o) ns) ds (below_own o n ns parts.0) (h n)) (rising_own o ns ds parts.1 h is)

later_rows : (e : Origin × List ℕ) (es : List (Origin × List ℕ)) → AreRows (e ∷ es) → AreRows es
later_rows e es is = record { in_order = second (below_all origin_cmp e.0 es) (is_sorted origin_cmp es) is.in_order; each = λ i d p. is.each (suc i) d (omega arith) }

first_some : (e : Origin × List ℕ) (es : List (Origin × List ℕ)) → AreRows (e ∷ es) → IsRising nat_cmp e.1 × (1 ≤ length e.1)
first_some e es is = is.each 0 e (omega arith)

pub rising_listed : (es : List (Origin × List ℕ)) → AreRows es → IsRising dot_cmp (listed es)
rising_listed [] is = refl
rising_listed (e ∷ es) is = rising_own e.0 e.1 (listed es) (first_some e es is).0 (λ n. below_listed e.0 n es (first (below_all origin_cmp e.0 es) (is_sorted origin_cmp es) is.in_order)) (rising_listed es (later_rows e es is))

module _ (es : List (Origin × List ℕ)) (dots : Dots) (view : dots_of es ≡ dots) where
  pub listed_same : set.from_list (listed es) ≡ dots
  listed_same = set.same_set dots_total exact_dots _ _ (λ q. set.contains-from_list dots_total (listed es) q ∙ has_listed es q ∙ sym (contains_any es dots view q))

  pub listed_is : AreRows es → listed es ≡ in_order dots
  listed_is is = in_order-one dots_total exact_dots dots (listed es) (rising_listed es is) listed_same

  pub counted_is : AreRows es → counted es ≡ set.len dots
  counted_is is = sym (length_listed es) ∙ len_rising dots_total (listed es) (rising_listed es is) ∙ ap (λ (s : Dots). set.len s) listed_same

pub counted_append : (es fs : List (Origin × List ℕ)) → counted (es ++ fs) ≡ counted es + counted fs
counted_append [] fs = omega arith
counted_append (e ∷ es) fs = let more = counted_append es fs in omega arith

pub no_count : (es : List (Origin × List ℕ)) → length es ≡ 0 → counted es ≡ 0
no_count [] p = refl
no_count (e ∷ es) p = absurd (omega arith)

-- each origin has a dot
pub counted_some : (es : List (Origin × List ℕ)) → AreRows es → length es ≤ counted es
counted_some [] is = omega arith
counted_some (e ∷ es) is = let one = (first_some e es is).1 in let rest = counted_some es (later_rows e es is) in omega arith

-- ---- a loop over the entries

module _ (e : Origin × List ℕ) (old rest whole : List (Origin × List ℕ)) (parted : old ≡ e ∷ rest) where
  pub ahead_more : IsInOrder origin_cmp (e ∷ rest) → (mid new other : List (Origin × List ℕ)) → ((k : Origin) → is_lt (origin_cmp k e.0) ≡ false → find origin_cmp k new ≡ find origin_cmp k mid)
      → ((o : Origin) (ns : List ℕ) → find origin_cmp o old ≡ Some ns → find origin_cmp o mid ≡ find origin_cmp o other)
      → (o : Origin) (ns : List ℕ) → find origin_cmp o rest ≡ Some ns → find origin_cmp o new ≡ find origin_cmp o other
  ahead_more h mid new other same ahead o ns at = same o (found_later e rest h o ns at) ∙ ahead o ns (ap (find origin_cmp o) parted ∙ found_after e rest h o ns at)

  pub ahead_first : (mid other : List (Origin × List ℕ)) → ((o : Origin) (ns : List ℕ) → find origin_cmp o old ≡ Some ns → find origin_cmp o mid ≡ find origin_cmp o other) → find origin_cmp e.0 mid ≡ find origin_cmp e.0 other
  ahead_first mid other ahead = ahead e.0 e.1 (ap (find origin_cmp e.0) parted ∙ found_first e rest)

module _ (old whole : List (Origin × List ℕ)) (none : old ≡ []) where
  pub filled_all : (mid : Dot → Bool) → ((q : Dot) → any_at whole q ≡ true → (mid q || any_at old q) ≡ true) → (q : Dot) → any_at whole q ≡ true → mid q ≡ true
  filled_all mid so_far q at = sym (or-false (mid q)) ∙ ap (λ es. mid q || any_at es q) (sym none) ∙ so_far q at
