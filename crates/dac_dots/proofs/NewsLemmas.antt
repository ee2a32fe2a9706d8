-- What one set has that another one lacks, found span by span and origin by origin.
use Rattle.std.proofs.Common.{◌≡◌, ℕ, ◌≤◌, Bool, true, false, cond, ◌||◌, ◌&&◌, List, [], ◌∷◌, Option, None, Some, Result, Ok, Err, length, take, refl, sym, ap, ◌∙◌, subst, arith}
use Rattle.std.specs.Prelude.{IfOk, OnErr, OnOk}
use Rattle.std.specs.Ordering.{nat_cmp, eq_by_cmp}
use Rattle.std.specs.FinSet as set
use Rattle.std.specs.FinMap.{find}
use Rattle.std.specs.FinMap.Entries.{find-put}
use Rattle.std.proofs.lemmas.Bool.{and_from, false≢true, or_left}
use Rattle.std.proofs.lemmas.Bool.{le-leb}
use Rattle.std.proofs.lemmas.List.{take_all}
use Rattle.std.proofs.Math.Bool.{or-false}
use Rattle.dac_origins.specs.Keys.{IsRising, has_key}
use Rattle.dac_origins.specs.laws.InOrder.{tie}
use Rattle.dac_origins.specs.Dots.{Dots, origin_cmp}
use Rattle.dac_origins.specs.laws.Dots.{dots_total, exact_dots, origins_total, exact_origins}
use Rattle.dac_origins.specs.declared.dot.Origin.{Origin}
use Rattle.dac_origins.specs.declared.dot.Dot.{Dot}
use Rattle.dac_lattice.specs.Altered.{Altering, IsAlteredAt, IsAlteredIf}
use Rattle.dac_dots.specs.Entries.{AreRows, AreSome, dots_of, has_at}
use Rattle.dac_dots.specs.News.{AreNews, AreWithSpan, IsDoneOr, is_in_span}
use Rattle.dac_dots.specs.Spans.{any_span, are_apart, counters_in, span_has}
use Rattle.dac_dots.specs.declared.spans.Span.{Span}
use Rattle.dac_dots.specs.declared.news.News.{News}
use Rattle.dac_dots.specs.declared.news.News.TheVariants.{Nothing, Consecutive, More}
use Rattle.dac_dots.specs.laws.EntryRows.{contains_at, rows_put}
use Rattle.dac_dots.specs.laws.RowSets.{some_length}
use Rattle.dac_dots.proofs.SetLemmas.{any_at, contains_any, contains_found}
use Rattle.dac_dots.proofs.SpanLemmas.{has_now}

-- ---- spans

with_same : (has more other : ℕ → Bool) (news : Option Span) → ((n : ℕ) → (more n || other n) ≡ (has n || other n)) → AreWithSpan has other news → AreWithSpan more other news
with_same has more other None same are = λ n. same n ∙ are n
with_same has more other (Some span) same are = (are.0, λ n. same n ∙ are.1 n)

pub spans_all : (spans : List Span) → are_apart 0 spans ≡ true → (now : List ℕ) → counters_in spans ≡ now → (i : ℕ) → length spans ≤ i → (other : ℕ → Bool) (news : Option Span)
    → AreWithSpan (any_span (take i spans)) other news → AreWithSpan (has_key nat_cmp now) other news
spans_all spans apart now view i p other news are = with_same (any_span (take i spans)) (has_key nat_cmp now) other news
    (λ n. ap (λ b. b || other n) (has_now spans apart now view n ∙ ap (λ l. any_span l n) (sym (take_all i spans p)))) are

-- two facts of a call's result
pub ok_both : {X E : Type 0} (r : Result X E) (A B C : Type 0) → (A → B → C) → OnOk r A → OnOk r B → OnOk r C
ok_both (Ok x) A B C f a b = f a b
ok_both (Err e) A B C f a b = tt

-- ---- a change at an origin

module _ (T : Type 0) (span : Span) (steps : T → T → Type 0) where
  -- what the change does to the counters and the target
  abbrev pub Puts : Altering (List ℕ) T
  Puts ns t ms u = IsRising nat_cmp ms × (((n : ℕ) → has_key nat_cmp ms n ≡ (span_has n span || has_key nat_cmp ns n)) × steps t u)

  module _ (valid : span.first ≤ span.last) (origin : Origin) (rows now : List (Origin × List ℕ)) (before after : T) (is : AreRows rows) where
    some_made : (ns ms : List ℕ) → Puts ns before ms after → AreSome origin (Some ms)
    some_made ns ms does = (
      does.0,
      some_length ms span.first (does.1.0 span.first
          ∙ or_left (span_has span.first span) (has_key nat_cmp ns span.first) (and_from _ _ (le-leb span.first span.first (omega arith)) (le-leb span.first span.last valid))),
    )

    kept : IsAlteredAt origin_cmp Puts origin rows before now after → AreRows now
    kept c = subst AreRows (sym c.entries) (rows_put rows origin c.made is (some_made c.value c.made c.done))

    has_then : (c : IsAlteredAt origin_cmp Puts origin rows before now after) (q : Dot) → set.contains (dots_of now) q ≡ (is_in_span origin span q || set.contains (dots_of rows) q)
    has_then c q =
        contains_at now (kept c).in_order q
        ∙ ap (λ es. has_at q.n (find origin_cmp q.origin es)) c.entries
        ∙ ap (has_at q.n) (find-put origin_cmp origins_total q.origin origin c.made rows)
        ∙ at
        ∙ ap (λ b. is_in_span origin span q || b) (sym (contains_at rows is.in_order q))
      where
        at : has_at q.n (cond (eq_by_cmp origin_cmp q.origin origin) (Some c.made) (find origin_cmp q.origin rows)) ≡ ((eq_by_cmp origin_cmp q.origin origin && span_has q.n span) || has_at q.n (find origin_cmp q.origin rows))
        at = elim (eq_by_cmp origin_cmp q.origin origin) as (λ t. eq_by_cmp origin_cmp q.origin origin ≡ t → has_at q.n (cond t (Some c.made) (find origin_cmp q.origin rows)) ≡ ((t && span_has q.n span) || has_at q.n (find origin_cmp q.origin rows))) [
          | true ↦ λ t. c.done.1.0 q.n ∙ ap (λ v. span_has q.n span || has_at q.n v) (sym c.found ∙ ap (λ o. find origin_cmp o rows) (sym (exact_origins q.origin origin (tie _ t))))
          | false ↦ λ t. refl
        ] refl

    -- the rows stay a context's
    pub rows_changed : (done : Bool) → IsAlteredIf origin_cmp Puts origin rows before now after done → AreRows now
    rows_changed true c = kept c
    rows_changed false c = subst AreRows (sym c.0) is

    pub rows_tried : {E : Type 0} (r : Result Bool E) → IfOk r (IsAlteredIf origin_cmp Puts origin rows before now after) → OnErr r ((now ≡ rows) × (after ≡ before)) → AreRows now
    rows_tried (Ok done) c e = rows_changed done c
    rows_tried (Err _) c e = subst AreRows (sym e.0) is

    -- and are the union
    pub dots_changed : (dots other : Dots) → dots_of rows ≡ dots → ((q : Dot) → (set.contains dots q || set.contains other q) ≡ (is_in_span origin span q || set.contains dots q))
        → (done : Bool) → IsAlteredIf origin_cmp Puts origin rows before now after done
        → IsDoneOr ((dots_of now ≡ set.union dots other) × steps before after) ((dots_of now ≡ dots) × (after ≡ before)) done
    dots_changed dots other view news true c = (
      set.same_set dots_total exact_dots (dots_of now) (set.union dots other) (λ q.
          has_then c q
          ∙ ap (λ (d : Dots). is_in_span origin span q || set.contains d q) view
          ∙ sym (news q)
          ∙ sym (set.contains-union dots_total dots other q)),
      c.done.1.1,
    )
    dots_changed dots other view news false c = (ap dots_of c.0 ∙ view, c.1)

-- nothing new
pub nothing_new : (dots other : Dots) → ((q : Dot) → (set.contains dots q || set.contains other q) ≡ set.contains dots q) → dots ≡ set.union dots other
nothing_new dots other news = set.same_set dots_total exact_dots dots (set.union dots other) (λ q. sym (news q) ∙ sym (set.contains-union dots_total dots other q))

-- ---- origin by origin

-- whether the dot is among the news
abbrev pub in_news : News → Dot → Bool
in_news Nothing q = false
in_news (Consecutive origin span) q = is_in_span origin span q
in_news More q = false

abbrev pub IsValid : News → Type 0
IsValid Nothing = Unit {0}
IsValid (Consecutive origin span) = span.first ≤ span.last
IsValid More = ⊥

-- the news of the entries that were passed
pub record AreNewsSoFar (old : Dots) (whole rest : List (Origin × List ℕ)) (news : News) : Type 0 where
  pub valid : IsValid news
  pub same : (q : Dot) → ((in_news news q || set.contains old q) || any_at rest q) ≡ (set.contains old q || any_at whole q)

module _ (old : Dots) (rows : List (Origin × List ℕ)) (view : dots_of rows ≡ old) (is : AreRows rows) (whole mid rest : List (Origin × List ℕ)) (e : Origin × List ℕ) (parted : mid ≡ e ∷ rest) (own : List ℕ) (found : find origin_cmp e.0 rows ≡ Some own) where
  abbrev row_at : Dot → Bool
  row_at q = eq_by_cmp origin_cmp q.origin e.0 && has_key nat_cmp e.1 q.n

  own_at : (q : Dot) → eq_by_cmp origin_cmp q.origin e.0 ≡ true → set.contains old q ≡ has_key nat_cmp own q.n
  own_at q t = contains_found rows old view is q ∙ ap (has_at q.n) (ap (λ o. find origin_cmp o rows) (exact_origins q.origin e.0 (tie _ t)) ∙ found)

  split : (news : News) → AreNewsSoFar old whole mid news → (q : Dot) → ((in_news news q || set.contains old q) || (row_at q || any_at rest q)) ≡ (set.contains old q || any_at whole q)
  split news so q = ap (λ es. (in_news news q || set.contains old q) || any_at es q) (sym parted) ∙ so.same q

  -- an origin of which the old set has all
  pub origin_known : (news : News) → AreWithSpan (has_key nat_cmp e.1) (has_key nat_cmp own) None → AreNewsSoFar old whole mid news → AreNewsSoFar old whole rest news
  origin_known news with so = record {
    valid = so.valid;
    same = λ q. regroup (in_news news q) (set.contains old q) (row_at q) (any_at rest q) (known q) ∙ split news so q;
  }
    where
      regroup : (i o r a : Bool) → (r ≡ true → o ≡ true) → ((i || o) || a) ≡ ((i || o) || (r || a))
      regroup true o r a f = refl
      regroup false true r a f = refl
      regroup false false true a f = absurd (false≢true (f refl))
      regroup false false false a f = refl

      known : (q : Dot) → row_at q ≡ true → set.contains old q ≡ true
      known q = elim (eq_by_cmp origin_cmp q.origin e.0) as (λ t. eq_by_cmp origin_cmp q.origin e.0 ≡ t → (t && has_key nat_cmp e.1 q.n) ≡ true → set.contains old q ≡ true) [
        | true ↦ λ t has. own_at q t ∙ sym (with q.n) ∙ ap (λ b. b || has_key nat_cmp own q.n) has
        | false ↦ λ t has. absurd (false≢true has)
      ] refl

  -- the first one with a span that it lacks
  pub origin_new : (span : Span) → AreWithSpan (has_key nat_cmp e.1) (has_key nat_cmp own) (Some span) → AreNewsSoFar old whole mid Nothing → AreNewsSoFar old whole rest (Consecutive e.0 span)
  origin_new span with so = record {
    valid = with.0;
    same = λ q. regroup (is_in_span e.0 span q) (set.contains old q) (row_at q) (any_at rest q) (new q) ∙ split Nothing so q;
  }
    where
      regroup : (i o r a : Bool) → (o || r) ≡ (i || o) → ((i || o) || a) ≡ (o || (r || a))
      regroup i true r a e = ap (λ b. b || a) (sym e)
      regroup i false r a e = ap (λ b. b || a) (sym e)

      new : (q : Dot) → (set.contains old q || row_at q) ≡ (is_in_span e.0 span q || set.contains old q)
      new q = elim (eq_by_cmp origin_cmp q.origin e.0) as (λ t. eq_by_cmp origin_cmp q.origin e.0 ≡ t → (set.contains old q || (t && has_key nat_cmp e.1 q.n)) ≡ ((t && span_has q.n span) || set.contains old q)) [
        | true ↦ λ t.
            let here = own_at q t in
            turn (set.contains old q) (has_key nat_cmp e.1 q.n) ∙ ap (λ b. has_key nat_cmp e.1 q.n || b) here ∙ with.1 q.n ∙ ap (λ b. span_has q.n span || b) (sym here)
        | false ↦ λ t. or-false (set.contains old q)
      ] refl
        where
          turn : (a b : Bool) → (a || b) ≡ (b || a)
          turn true true = refl
          turn true false = refl
          turn false true = refl
          turn false false = refl

ends : (old other : Dots) (whole rest : List (Origin × List ℕ)) → dots_of whole ≡ other → rest ≡ [] → (news : News) → AreNewsSoFar old whole rest news → (q : Dot) → (set.contains old q || set.contains other q) ≡ (in_news news q || set.contains old q)
ends old other whole rest view none news so q =
    ap (λ b. set.contains old q || b) (contains_any whole other view q)
    ∙ sym (so.same q)
    ∙ ap (λ es. (in_news news q || set.contains old q) || any_at es q) none
    ∙ or-false (in_news news q || set.contains old q)

-- all entries were passed
pub news_all : (old other : Dots) (whole rest : List (Origin × List ℕ)) → dots_of whole ≡ other → rest ≡ [] → (news : News) → AreNewsSoFar old whole rest news → AreNews (set.contains old) (set.contains other) news
news_all old other whole rest view none Nothing so = λ q. ends old other whole rest view none Nothing so q
news_all old other whole rest view none (Consecutive origin span) so = (so.valid, λ q. ends old other whole rest view none (Consecutive origin span) so q)
news_all old other whole rest view none More so = tt
