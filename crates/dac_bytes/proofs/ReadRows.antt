-- The facts about a row that was read, whatever the bytes were.
use Rattle.std.specs.Prelude.{◌≡◌, ℕ, zero, suc, ◌+◌, ◌-◌, ◌^◌, ◌≤◌, ◌⊎◌, true, false, ◌||◌, cond, nat_lt, nat_eq, List, [], ◌∷◌, ◌++◌, length, Option, Some, None, Result, Ok, Err, Bool, IsTrue, ◌↔◌, refl}
use Rattle.std.specs.FinSet as set
use Rattle.std.specs.Int.{w32, w64}
use Rattle.std.specs.declared.cmp.Ordering.TheVariants.{Less}
use Rattle.std.specs.Ordering.{eq_by_cmp}
use Rattle.std.proofs.Common.{inl, inr, sym, ap, subst, ◌∙◌, arith}
use Rattle.std.proofs.lemmas.Bool.{and_from, or_cases, or_parts, or_left, or_right, ltb-false, cases_lt, false≢true}
use Rattle.dac_base.specs.declared.limits.TheConstants.{MAX_COUNTER}
use Rattle.dac_origins.specs.Keys.{has_key}
use Rattle.dac_origins.specs.laws.InOrder.{less, tie}
use Rattle.dac_origins.specs.Dots.{Dots, dot_cmp, origin_cmp}
use Rattle.dac_origins.specs.laws.Dots.{origins_total, exact_origins}
use Rattle.dac_origins.specs.declared.dot.Origin.{Origin}
use Rattle.dac_dots.specs.laws.RowSets.{rises_to, is_dots_in, kept_are, dots_back}
use Rattle.dac_dots.specs.Rows.{Row, rows_of, dots_in, origins, rises_on, HasSome, EndBefore, CanFollow}
use Rattle.dac_bytes.specs.declared.version.Version.{Version}
use Rattle.dac_bytes.specs.declared.fault.ReadFaultKind.TheVariants.{BadOrder, BadNumber}
use Rattle.dac_bytes.specs.Reading.{Rest, Field, Gives, ◌>>=◌, fault, rows_at, context_at, is_above, number_at, range_at, counter_at, origin_at, origin_above_at, items_at, further_at, further_count_at, row_at}
use Rattle.dac_bytes.specs.declared.fault.ReadFault.{ReadFault}
use Rattle.dac_bytes.specs.Items.{with_front}
use Rattle.dac_bytes.specs.laws.Items.{Fails-on}
use Rattle.dac_bytes.specs.laws.Takes.{bind_ok, guard_ok, wanted_ok, ok_is}

further_rise : (count low : ℕ) (r : Rest) (x : List ℕ × Rest) → items_at further_at (λ n. n) count low r ≡ Ok x → (rises_on low x.0 ≡ true) × (length x.0 ≡ count)
unfolding items_at further_at
further_rise zero low r x e = subst (λ (x : List ℕ × Rest). (rises_on low x.0 ≡ true) × (length x.0 ≡ 0)) (ok_is ([], r) x e) (refl, refl)
further_rise (suc count) low r x e =
    let read = counter_at r >>= λ n. cond (nat_lt low n.0) (Ok n) (fault BadOrder r) in
    let a = bind_ok read (λ first. items_at further_at (λ n. n) count first.0 first.1 >>= λ others. Ok (first.0 ∷ others.0, others.1)) x e in
    let b = bind_ok (counter_at r) (λ n. cond (nat_lt low n.0) (Ok n) (fault BadOrder r)) a.0 a.1 in
    let t = wanted_ok (nat_lt low b.0.0) BadOrder r b.0 a.0 b.2 in
    let c = bind_ok (items_at further_at (λ n. n) count a.0.0 a.0.1) (λ others. Ok (a.0.0 ∷ others.0, others.1)) x a.2 in
    let rest = further_rise count a.0.0 a.0.1 c.0 c.1 in
    let above : nat_lt low a.0.0 ≡ true = subst (λ (n : ℕ × Rest). nat_lt low n.0 ≡ true) t.1 t.0 in
    subst (λ (x : List ℕ × Rest). (rises_on low x.0 ≡ true) × (length x.0 ≡ suc count)) (ok_is (a.0.0 ∷ c.0.0, c.0.1) x c.2) (and_from _ _ above rest.0, ap suc rest.1)

-- there is at least one further counter if there is no other dot
count_some : (upto : ℕ) (r : Rest) (count : ℕ × Rest) → further_count_at upto r ≡ Ok count → upto ≡ 0 → 1 ≤ count.0
unfolding range_at
count_some upto r count e none =
    let low = cond (nat_eq upto 0) 1 0 in
    let a = bind_ok (number_at w32 r) (λ n. cond (nat_lt n.0 low || nat_lt (2 ^ 32 - 1) n.0) (fault BadNumber r) (Ok n)) count e in
    let t = guard_ok (nat_lt a.0.0 low || nat_lt (2 ^ 32 - 1) a.0.0) BadNumber r a.0 count a.2 in
    let at_least : low ≤ a.0.0 = ltb-false a.0.0 low (or_parts _ _ t.0).0 in
    let one : low ≡ 1 = ap (λ u. cond (nat_eq u 0) 1 0) none in
    subst (λ (n : ℕ × Rest). 1 ≤ n.0) t.1 (omega arith)

origin_above : (version : Version) (nodes : ℕ) (before : Option Origin) (r : Rest) (origin : Origin × Rest) → origin_above_at version nodes before r ≡ Ok origin → is_above origin_cmp before origin.0 ≡ true
unfolding origin_above_at
origin_above version nodes before r origin e =
    let a = bind_ok (origin_at version nodes r) (λ origin. cond (is_above origin_cmp before origin.0) (Ok origin) (fault BadOrder r)) origin e in
    let t = wanted_ok (is_above origin_cmp before a.0.0) BadOrder r a.0 origin a.2 in
    subst (λ (o : Origin × Rest). is_above origin_cmp before o.0 ≡ true) t.1 t.0

-- the facts about a row, given the previous origin
pub record CanCome (before : Option Origin) (row : Row) : Type 0 where
  pub above : is_above origin_cmp before row.origin ≡ true
  pub rises : rises_on (row.upto + 1) row.further ≡ true
  pub some : HasSome row

pub row_comes : (version : Version) (nodes : ℕ) (before : Option Origin) (r : Rest) (x : Row × Rest) → row_at version nodes before r ≡ Ok x → CanCome before x.0
unfolding row_at
row_comes version nodes before r x e =
    let made = λ (o : Origin) (v : ℕ) (ns : List ℕ). let row : Row = record { origin = o; upto = v; further = ns } in row in
    let a = bind_ok (origin_above_at version nodes before r) (λ origin. range_at w64 0 MAX_COUNTER origin.1 >>= λ upto. further_count_at upto.0 upto.1 >>= λ count. items_at further_at (λ n. n) count.0 (upto.0 + 1) count.1 >>= λ further. Ok (made origin.0 upto.0 further.0, further.1)) x e in
    let b = bind_ok (range_at w64 0 MAX_COUNTER a.0.1) (λ upto. further_count_at upto.0 upto.1 >>= λ count. items_at further_at (λ n. n) count.0 (upto.0 + 1) count.1 >>= λ further. Ok (made a.0.0 upto.0 further.0, further.1)) x a.2 in
    let c = bind_ok (further_count_at b.0.0 b.0.1) (λ count. items_at further_at (λ n. n) count.0 (b.0.0 + 1) count.1 >>= λ further. Ok (made a.0.0 b.0.0 further.0, further.1)) x b.2 in
    let d = bind_ok (items_at further_at (λ n. n) c.0.0 (b.0.0 + 1) c.0.1) (λ further. Ok (made a.0.0 b.0.0 further.0, further.1)) x c.2 in
    let rise = further_rise c.0.0 (b.0.0 + 1) c.0.1 d.0 d.1 in
    let count = count_some b.0.0 b.0.1 c.0 c.1 in
    let some : HasSome (made a.0.0 b.0.0 d.0.0) = elim (cases_lt 0 b.0.0) [ inl more ↦ inl more | inr none ↦ inr (let one = count (omega arith) in omega (arith, rise.1)) ] in
    subst (λ (x : Row × Rest). CanCome before x.0) (ok_is (made a.0.0 b.0.0 d.0.0, d.0.1) x d.2) (record { above = origin_above version nodes before r a.0 a.1; rises = rise.0; some = some })

-- ---- the rows so far

-- the last origin of the rows so far, if any
abbrev pub IsLast : Option Origin → List Row → Type 0
IsLast None rows = rows ≡ []
IsLast (Some o) rows = (x : Origin) → has_key origin_cmp (origins rows) x ≡ true → (x ≡ o) ⊎ (origin_cmp x o ≡ Less)

pub can_follow : (before : Option Origin) (rows : List Row) (row : Row) → IsLast before rows → CanCome before row → CanFollow rows row
can_follow before rows row last can = record { above = above before last can.above; rising = rises_to (row.upto + 1) row.further can.rises; some = can.some }
  where
    above : (before : Option Origin) → IsLast before rows → is_above origin_cmp before row.origin ≡ true → EndBefore rows row.origin
    above None last e x h = absurd (false≢true (ap (λ (rows : List Row). has_key origin_cmp (origins rows) x) (sym last) ∙ h))
    above (Some o) last e x h = elim (last x h) [
      | inl is ↦ ap (λ z. origin_cmp z row.origin) is ∙ less _ e
      | inr below ↦ origins_total.trans x o row.origin below (less _ e)
    ]

pub last_more : (rows : List Row) (row : Row) → CanFollow rows row → IsLast (Some row.origin) (rows ++ row ∷ [])
last_more rows row can x h = has_last rows can.above x h
  where
    has_last : (rows : List Row) → EndBefore rows row.origin → (x : Origin) → has_key origin_cmp (origins (rows ++ row ∷ [])) x ≡ true → (x ≡ row.origin) ⊎ (origin_cmp x row.origin ≡ Less)
    has_last [] below x h = elim (or_cases (eq_by_cmp origin_cmp x row.origin) false h) [ inl at ↦ inl (exact_origins x row.origin (tie _ at)) | inr none ↦ absurd (false≢true none) ]
    has_last (y ∷ rows) below x h = elim (or_cases (eq_by_cmp origin_cmp x y.origin) (has_key origin_cmp (origins (rows ++ row ∷ [])) x) h) [
      | inl at ↦ inr (below x (or_left _ _ at))
      | inr past ↦ has_last rows (λ o e. below o (or_right _ _ e)) x past
    ]

-- ---- the set of the rows

pub no_rows : rows_of set.empty ≡ []
no_rows = ap rows_of (is_dots_in set.empty [] (λ q. set.contains-empty dot_cmp q)) ∙ kept_are [] (record { each = tt; rising = refl })

front_none : {X : Type 0} (x : Field (List X)) → with_front [] x ≡ x
front_none (Ok x) = refl
front_none (Err e) = refl

pub starts : (version : Version) (nodes count : ℕ) (r : Rest) (dots : Dots) → dots ≡ set.empty → with_front (rows_of dots) (items_at (row_at version nodes) (λ (row : Row). Some row.origin) (count - 0) None r) ≡ items_at (row_at version nodes) (λ (row : Row). Some row.origin) count None r
starts version nodes count r dots is =
    let none : rows_of dots ≡ [] = ap rows_of is ∙ no_rows in
    let all : count - 0 ≡ count = omega arith in
    (λ i. with_front (none i) (items_at (row_at version nodes) (λ (row : Row). Some row.origin) (all i) None r)) ∙ front_none (items_at (row_at version nodes) (λ (row : Row). Some row.origin) count None r)

-- one more row was read and added
pub pushed : (before : Option Origin) (old new : Dots) (row : Row) (b : Bool) → IsLast before (rows_of old) → CanCome before row → (IsTrue b ↔ CanFollow (rows_of old) row) → rows_of new ≡ cond b (rows_of old ++ row ∷ []) (rows_of old) → rows_of new ≡ rows_of old ++ row ∷ []
pushed before old new row b last can says is = is ∙ ap (λ b. cond b (rows_of old ++ row ∷ []) (rows_of old)) (says.1 (can_follow before (rows_of old) row last can))

pub given_set : (version : Version) (nodes : ℕ) (r : Rest) (result : Result (Dots × Rest) ReadFault) → Gives (λ x. (rows_of x.0, x.1)) result (rows_at version nodes r) → Gives (λ x. x) result (context_at version nodes r)
unfolding context_at
given_set version nodes r (Ok x) h = ap (λ f. f >>= λ rows. Ok (dots_in rows.0, rows.1)) h ∙ ap (λ (d : Dots). Ok (d, x.1)) (dots_back x.0)
given_set version nodes r (Err e) h = Fails-on e.kind e (rows_at version nodes r) (context_at version nodes r) h (λ is. ap (λ f. f >>= λ rows. Ok (dots_in rows.0, rows.1)) is)
