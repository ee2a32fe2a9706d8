-- Steps of a merge of two maps, of which the first is given in parts.
use Rattle.std.proofs.Common.{◌≡◌, ◌+◌, ◌<◌, true, false, T, List, [], ◌∷◌, ◌++◌, Option, None, Some, ℕ, suc, ◌≤◌, length, get_or, take, drop, refl, sym, ap, subst, ◌∙◌, arith, add-one, append_assoc, append-nil, true≢false}
use Rattle.std.specs.declared.cmp.Ordering.{Ordering}
use Rattle.std.specs.declared.cmp.Ordering.TheVariants.{Less, Equal, Greater}
use Rattle.std.specs.Ordering.{is_eq, is_lt, ordering_reverse}
use Rattle.std.specs.Cmp.{IsTotalOrder}
use Rattle.std.specs.FinMap.Entries.{by_order}
use Rattle.std.proofs.lemmas.List.{drop_all, drop_more, take_all, take_more}
use Rattle.std.proofs.lemmas.Bool.{and_parts}
use Rattle.dac_origins.specs.laws.KeyLaws.{greater}
use Rattle.dac_origins.specs.laws.InOrder.{tie}
use Rattle.dac_lattice.specs.Entries.{Combine, keep, merge_right, merge_entry, merge_entries}
use Rattle.dac_lattice.specs.laws.EntryLaws.{less}
use Rattle.dac_sorted.specs.Appending.{is_above_entries}
use Rattle.dac_sorted.specs.Digests.{AllStay}
use Rattle.dac_sorted.specs.Joining.{AreBefore, ArePassed, IsMergedBelow, IsMergedPart, IsMergedWith, IsNotAt, IsNotBelow, IsTakenAt}

module _ {K X : Type 0} where
  -- the merged entry, before others
  pub keep_more : (old : List (K × X)) (k : K) (v : Option X) (es : List (K × X)) → (old ++ keep k v []) ++ es ≡ old ++ keep k v es
  keep_more old k None es = ap (λ l. l ++ es) (append-nil old)
  keep_more old k (Some v) es = append_assoc old ((k, v) ∷ []) es

  module _ {R : K → K → Ordering} (o : IsTotalOrder R) (f : Combine K X) where
    -- the first entry of the second map is below that of the first
    pub one_below : (old : List (K × X)) (y x : K × X) (rest : List (K × X) → List (K × X)) (ys : List (K × X)) → R y.0 x.0 ≡ Less
        → (old ++ keep y.0 (f y.0 None (Some y.1)) []) ++ merge_entry R f x rest ys ≡ old ++ merge_entry R f x rest (y ∷ ys)
    one_below old y x rest ys p =
        keep_more old y.0 (f y.0 None (Some y.1)) (merge_entry R f x rest ys)
        ∙ ap (λ r. old ++ by_order r
        (keep x.0 (f x.0 (Some x.1) None) (rest (y ∷ ys)))
        (keep x.0 (f x.0 (Some x.1) (Some y.1)) (rest ys))
        (keep y.0 (f y.0 None (Some y.1)) (merge_entry R f x rest ys))) (sym (greater o y.0 x.0 p))

    -- both maps have an entry at the key
    pub one_both : (old : List (K × X)) (y x : K × X) (rest : List (K × X) → List (K × X)) (ys : List (K × X)) → R y.0 x.0 ≡ Equal
        → (old ++ keep x.0 (f x.0 (Some x.1) (Some y.1)) []) ++ rest ys ≡ old ++ merge_entry R f x rest (y ∷ ys)
    one_both old y x rest ys p =
        keep_more old x.0 (f x.0 (Some x.1) (Some y.1)) (rest ys)
        ∙ ap (λ r. old ++ by_order r
        (keep x.0 (f x.0 (Some x.1) None) (rest (y ∷ ys)))
        (keep x.0 (f x.0 (Some x.1) (Some y.1)) (rest ys))
        (keep y.0 (f y.0 None (Some y.1)) (merge_entry R f x rest ys))) (sym (o.antisymm x.0 y.0 ∙ ap ordering_reverse p))

    -- the second map has no entries left
    pub one_alone : (old : List (K × X)) (x : K × X) (rest : List (K × X) → List (K × X)) → (old ++ keep x.0 (f x.0 (Some x.1) None) []) ++ rest [] ≡ old ++ merge_entry R f x rest []
    one_alone old x rest = keep_more old x.0 (f x.0 (Some x.1) None) (rest [])

    pub one_before : (old : List (K × X)) (y x : K × X) (rest : List (K × X) → List (K × X)) (ys : List (K × X)) → R x.0 y.0 ≡ Less
        → (old ++ keep x.0 (f x.0 (Some x.1) None) []) ++ rest (y ∷ ys) ≡ old ++ merge_entry R f x rest (y ∷ ys)
    one_before old y x rest ys p =
        keep_more old x.0 (f x.0 (Some x.1) None) (rest (y ∷ ys))
        ∙ ap (λ r. old ++ by_order r
        (keep x.0 (f x.0 (Some x.1) None) (rest (y ∷ ys)))
        (keep x.0 (f x.0 (Some x.1) (Some y.1)) (rest ys))
        (keep y.0 (f y.0 None (Some y.1)) (merge_entry R f x rest ys))) (sym p)

  module _ {R : K → K → Ordering} (o : IsTotalOrder R) (f : Combine K X) where
    -- a step below a key
    pub below_step : (key : K) (W : K × X → (List (K × X) → List (K × X)) → List (K × X)) (now new ys zs : List (K × X)) (e : K × X) (v : Option X)
        → ys ≡ e ∷ drop 1 ys → R e.0 key ≡ Less → v ≡ f e.0 None (Some e.1) → new ≡ now ++ keep e.0 v [] → zs ≡ drop 1 ys
        → ((x : K × X) (rest : List (K × X) → List (K × X)) → x.0 ≡ key → now ++ merge_entry R f x rest ys ≡ W x rest)
        → (x : K × X) (rest : List (K × X) → List (K × X)) → x.0 ≡ key → new ++ merge_entry R f x rest zs ≡ W x rest
    below_step key W now new ys zs e v is below made pushed passed so_far x rest same =
        ap (λ l. l ++ merge_entry R f x rest zs) (pushed ∙ ap (λ w. now ++ keep e.0 w []) made)
        ∙ ap (λ l. (now ++ keep e.0 (f e.0 None (Some e.1)) []) ++ merge_entry R f x rest l) passed
        ∙ one_below o f now e x rest (drop 1 ys) (subst (λ k. R e.0 k ≡ Less) (sym same) below)
        ∙ ap (λ l. now ++ merge_entry R f x rest l) (sym is)
        ∙ so_far x rest same

    -- a step with only the second map left
    pub alone_step : (W now new ys zs : List (K × X)) (e : K × X) (v : Option X)
        → ys ≡ e ∷ drop 1 ys → v ≡ f e.0 None (Some e.1) → new ≡ now ++ keep e.0 v [] → zs ≡ drop 1 ys
        → now ++ merge_entries R f [] ys ≡ W → new ++ merge_entries R f [] zs ≡ W
    alone_step W now new ys zs e v is made pushed passed so_far =
        ap (λ l. l ++ merge_right R f zs) (pushed ∙ ap (λ w. now ++ keep e.0 w []) made)
        ∙ keep_more now e.0 (f e.0 None (Some e.1)) (merge_right R f zs)
        ∙ ap (λ l. now ++ keep e.0 (f e.0 None (Some e.1)) (merge_right R f l)) passed
        ∙ ap (λ l. now ++ merge_right R f l) (sym is)
        ∙ so_far

    -- an entry merged with the one taken from the other side
    pub with_taken : (x : K × X) (old new ys zs : List (K × X)) (w v : Option X) → IsNotBelow R x.0 ys → IsTakenAt R x.0 ys w zs → v ≡ f x.0 (Some x.1) w → new ≡ old ++ keep x.0 v []
        → IsMergedWith R f x old ys new zs
    with_taken x old new ys zs (Some w) v past taken made pushed rest =
        ap (λ l. l ++ rest zs) (pushed ∙ ap (λ u. old ++ keep x.0 u []) made)
        ∙ one_both o f old (taken.0, w) x rest zs taken.1
        ∙ ap (λ l. old ++ merge_entry R f x rest l) (sym taken.2)
    with_taken x old new [] zs None v past taken made pushed rest =
        ap (λ l. l ++ rest zs) (pushed ∙ ap (λ u. old ++ keep x.0 u []) made)
        ∙ ap (λ l. (old ++ keep x.0 (f x.0 (Some x.1) None) []) ++ rest l) taken.0
        ∙ one_alone o f old x rest
    with_taken x old new (y ∷ ys) zs None v past taken made pushed rest =
        ap (λ l. l ++ rest zs) (pushed ∙ ap (λ u. old ++ keep x.0 u []) made)
        ∙ ap (λ l. (old ++ keep x.0 (f x.0 (Some x.1) None) []) ++ rest l) taken.0
        ∙ one_before o f old y x rest ys (o.antisymm x.0 y.0 ∙ ap ordering_reverse (above (R y.0 x.0) past taken.1))
      where
        above : (r : Ordering) → (r ≡ Less → ⊥) → (r ≡ Equal → ⊥) → r ≡ Greater
        above Less p q = absurd (p refl)
        above Equal p q = absurd (q refl)
        above Greater p q = refl

    -- one more entry of a part
    pub part_step : (W : List (K × X) → List (K × X)) (left tl now mid new ys zs ws : List (K × X)) (e : K × X) → left ≡ e ∷ tl → IsMergedBelow R f e.0 now ys mid zs → IsMergedWith R f e mid zs new ws
        → ((xs : List (K × X)) → now ++ merge_entries R f (left ++ xs) ys ≡ W xs) → (xs : List (K × X)) → new ++ merge_entries R f (tl ++ xs) ws ≡ W xs
    part_step W left tl now mid new ys zs ws e is below made so_far xs =
        made (merge_entries R f (tl ++ xs))
        ∙ below.merged e (merge_entries R f (tl ++ xs)) refl
        ∙ ap (λ l. now ++ merge_entries R f (l ++ xs) ys) (sym is)
        ∙ so_far xs

    -- one more entry stays unchanged
    pub passed_more : (part ys now next : List (K × X)) (i : ℕ) (e : K × X) (w : Option X) → i < length part → e ≡ get_or part i e → IsNotBelow R e.0 now → IsTakenAt R e.0 now w next
        → f e.0 (Some e.1) w ≡ Some e.1
        → ((xs : List (K × X)) → take i part ++ merge_entries R f (drop i part ++ xs) now ≡ merge_entries R f (part ++ xs) ys)
        → (xs : List (K × X)) → take (i + 1) part ++ merge_entries R f (drop (i + 1) part ++ xs) next ≡ merge_entries R f (part ++ xs) ys
    passed_more part ys now next i e w p is past taken stays so_far =
        let step : take (i + 1) part ≡ take i part ++ e ∷ [] = take_more part i e p ∙ ap (λ (d : K × X). take i part ++ d ∷ []) (sym is) in
        part_step (λ xs. merge_entries R f (part ++ xs) ys) (drop i part) (drop (i + 1) part) (take i part) (take i part) (take (i + 1) part) now now next e
        (drop_more part i e p ∙ ap (λ (d : K × X). d ∷ drop (i + 1) part) (sym is))
        (record { merged = λ x rest same. refl; past = past })
        (with_taken e (take i part) (take (i + 1) part) now next w (Some e.1) past taken (sym stays) step)
        so_far

    -- all entries stay unchanged
    pub passed_all : (part ys now : List (K × X)) (i : ℕ) → length part ≤ i → ((xs : List (K × X)) → take i part ++ merge_entries R f (drop i part ++ xs) now ≡ merge_entries R f (part ++ xs) ys) → ArePassed R f part ys now
    passed_all part ys now i p so_far xs =
        ap (λ l. l ++ merge_entries R f xs now) (sym (take_all i part p))
        ∙ ap (λ l. take i part ++ merge_entries R f (l ++ xs) now) (sym (drop_all i part p))
        ∙ so_far xs

  -- no entry is at the key
  pub taken_none : (R : K → K → Ordering) (key : K) (ys : List (K × X)) → ys ≡ [] → IsTakenAt R key ys None ys
  taken_none R key ys e = (refl, subst (IsNotAt R key) (sym e) tt)

  pub taken_not : (R : K → K → Ordering) (key : K) (ys : List (K × X)) (e : K × X) → ys ≡ e ∷ drop 1 ys → is_eq (R e.0 key) ≡ false → IsTakenAt R key ys None ys
  taken_not R key ys e is not = (refl, subst (IsNotAt R key) (sym is) (λ at. true≢false (sym (ap is_eq at) ∙ not)))

  pub taken_one : (R : K → K → Ordering) (key : K) (ys zs : List (K × X)) (e : K × X) → ys ≡ e ∷ drop 1 ys → is_eq (R e.0 key) ≡ true → zs ≡ drop 1 ys → IsTakenAt R key ys (Some e.1) zs
  taken_one R key ys zs e is at passed = (e.0, tie (R e.0 key) at, is ∙ ap (λ l. e ∷ l) (sym passed))

  -- one entry fewer remains
  pub one_fewer : (ys zs : List (K × X)) (e : K × X) → ys ≡ e ∷ drop 1 ys → zs ≡ drop 1 ys → length zs < length ys
  one_fewer ys zs e is passed =
      let long : length ys ≡ length (drop 1 ys) + 1 = ap length is ∙ sym (add-one (length (drop 1 ys))) in
      let same : length zs ≡ length (drop 1 ys) = ap length passed in
      omega (arith, long, same)

  -- no entry remains below the key
  pub past_none : (R : K → K → Ordering) (key : K) (ys : List (K × X)) → ys ≡ [] → IsNotBelow R key ys
  past_none R key ys e = subst (IsNotBelow R key) (sym e) tt

  pub past_first : (R : K → K → Ordering) (key : K) (ys : List (K × X)) (e : K × X) → ys ≡ e ∷ drop 1 ys → is_lt (R e.0 key) ≡ false → IsNotBelow R key ys
  past_first R key ys e is not = subst (IsNotBelow R key) (sym is) (λ lower. true≢false (sym (ap is_lt lower) ∙ not))

  pub before_none : (R : K → K → Ordering) (part ys : List (K × X)) → ys ≡ [] → AreBefore R part ys
  before_none R part ys e = subst (AreBefore R part) (sym e) tt

  pub before_first : (R : K → K → Ordering) (part ys : List (K × X)) (e : K × X) → ys ≡ e ∷ drop 1 ys → is_above_entries R part e.0 ≡ true → AreBefore R part ys
  before_first R part ys e is all = subst (AreBefore R part) (sym is) all

  module _ (R : K → K → Ordering) (f : Combine K X) where
    -- the rest of the first map is a part, followed by the next ones
    pub merged_on : (now new rest part next ys zs whole : List (K × X)) → now ++ merge_entries R f rest ys ≡ whole → rest ≡ part ++ next → IsMergedPart R f part now ys new zs → new ++ merge_entries R f next zs ≡ whole
    merged_on now new rest part next ys zs whole so_far is merged = merged next ∙ ap (λ l. now ++ merge_entries R f l ys) (sym is) ∙ so_far

    -- the first map is merged, and then the rest of the second
    pub merged_all : (now mid new part ys zs whole : List (K × X)) → now ++ merge_entries R f part ys ≡ whole → IsMergedPart R f part now ys mid zs → new ≡ mid ++ merge_entries R f [] zs → new ≡ whole
    merged_all now mid new part ys zs whole so_far merged put = put ∙ merged [] ∙ ap (λ l. now ++ merge_entries R f l ys) (append-nil part) ∙ so_far

    -- none of the second map remains
    pub merged_none : (now ys whole : List (K × X)) → ys ≡ [] → now ++ merge_entries R f [] ys ≡ whole → now ≡ whole
    merged_none now ys whole none so_far = sym (append-nil now) ∙ ap (λ l. now ++ merge_right R f l) (sym none) ∙ so_far

  module _ (R : K → K → Ordering) (f : Combine K X) where
    -- the entries of the second map are all after the part
    pub part_stays : (part xs ys : List (K × X)) → AllStay f part → AreBefore R part ys → merge_entries R f (part ++ xs) ys ≡ part ++ merge_entries R f xs ys
    part_stays [] xs ys s b = refl
    part_stays (e ∷ es) xs [] s b =
        ap (λ v. keep e.0 v (merge_entries R f (es ++ xs) [])) (s 0 e (omega arith))
        ∙ ap (λ l. e ∷ l) (part_stays es xs [] (λ i d p. s (suc i) d (omega arith)) tt)
    part_stays (e ∷ es) xs (y ∷ ys) s b =
        ap (λ r. by_order r
        (keep e.0 (f e.0 (Some e.1) None) (merge_entries R f (es ++ xs) (y ∷ ys)))
        (keep e.0 (f e.0 (Some e.1) (Some y.1)) (merge_entries R f (es ++ xs) ys))
        (keep y.0 (f y.0 None (Some y.1)) (merge_entry R f e (merge_entries R f (es ++ xs)) ys))) (less (R e.0 y.0) (subst T (sym (and_parts _ _ b).0) tt))
        ∙ ap (λ v. keep e.0 v (merge_entries R f (es ++ xs) (y ∷ ys))) (s 0 e (omega arith))
        ∙ ap (λ l. e ∷ l) (part_stays es xs (y ∷ ys) (λ i d p. s (suc i) d (omega arith)) (and_parts _ _ b).1)

-- a part that stays unchanged is appended as it is
pub part_shared : {K X : Type 0} (R : K → K → Ordering) (f : Combine K X) (part old new ys : List (K × X)) → AllStay f part → AreBefore R part ys → new ≡ old ++ part → IsMergedPart R f part old ys new ys
part_shared R f part old new ys s b e xs =
    ap (λ l. l ++ merge_entries R f xs ys) e ∙ append_assoc old part (merge_entries R f xs ys) ∙ ap (λ l. old ++ l) (sym (part_stays R f part xs ys s b))
