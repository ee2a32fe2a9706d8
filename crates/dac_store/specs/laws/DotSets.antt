-- Laws of the definitions in `DotSets`.
use Rattle.std.specs.Prelude.{◌≡◌, Bool, true, false, not, ◌&&◌, ◌||◌, nat_eq, refl}
use Rattle.std.proofs.Common.{sym, ap, ◌∙◌}
use Rattle.std.proofs.lemmas.Bool.{false≢true, eqb-true, and_parts}
use Rattle.std.specs.FinSet as set
use Rattle.std.proofs.Math.Bool.{or_comm}
use Rattle.dac_origins.specs.Dots.{Dots, dot_cmp}
use Rattle.dac_origins.specs.laws.Dots.{dots_total, exact_dots}
use Rattle.dac_origins.specs.declared.dot.Dot.{Dot}
use Rattle.dac_lattice.specs.Chains.{IsAny}
use Rattle.dac_store.specs.Stores.{IsDotStore}
use Rattle.dac_store.specs.laws.Stores.{both_ways}
use Rattle.dac_store.specs.DotSets.{IsSetBelow, is_empty_set, join_sets, may_stay}

-- the dots of a join
pub contains_join : (s c t d : Dots) (x : Dot) → set.contains (join_sets s c t d) x ≡ ((set.contains s x && may_stay t d x) || (set.contains t x && may_stay s c x))
unfolding join_sets
contains_join s c t d x =
    set.contains-union dots_total (set.retain s (may_stay t d)) (set.retain t (may_stay s c)) x
    ∙ (λ i. set.contains-retain s (may_stay t d) x (λ y e. ap (may_stay t d) (sym (exact_dots x y e))) i || set.contains-retain t (may_stay s c) x (λ y e. ap (may_stay s c) (sym (exact_dots x y e))) i)

-- the join is commutative
pub join_turned : (s c t d : Dots) → join_sets s c t d ≡ join_sets t d s c
join_turned s c t d = set.same_set dots_total exact_dots _ _ (λ x.
    contains_join s c t d x ∙ or_comm (set.contains s x && may_stay t d x) (set.contains t x && may_stay s c x) ∙ sym (contains_join t d s c x))

-- ---- tests of one dot: s, t: the side's set has it; c, d: the side's context has it

-- a dot that stays, and is in the context, is in the set
pub held_if_stays : (s c : Bool) → (s || not c) ≡ true → c ≡ true → s ≡ true
held_if_stays true c h e = refl
held_if_stays false true h e = h
held_if_stays false false h e = absurd (false≢true e)

pub stays_if_held : (s c : Bool) → (c ≡ true → s ≡ true) → (s || not c) ≡ true
stays_if_held true c h = refl
stays_if_held false true h = h refl
stays_if_held false false h = refl

-- a dot of a join is on one of both sides
pub from_either : (s t a b : Bool) → ((s && a) || (t && b)) ≡ true → (s || t) ≡ true
from_either true t a b h = refl
from_either false t a b h = (and_parts t b h).0

-- a dot of a join that the left context has is in the left set
pub held_left : (s c t d : Bool) → ((s && (t || not d)) || (t && (s || not c))) ≡ true → c ≡ true → s ≡ true
held_left true c t d h e = refl
held_left false c false d h e = absurd (false≢true h)
held_left false true true d h e = absurd (false≢true h)
held_left false false true d h e = absurd (false≢true e)

pub held_right : (s c t d : Bool) → ((s && (t || not d)) || (t && (s || not c))) ≡ true → d ≡ true → t ≡ true
held_right s c true d h e = refl
held_right false c false d h e = absurd (false≢true h)
held_right true c false true h e = absurd (false≢true h)
held_right true c false false h e = absurd (false≢true e)

-- a dot stays if it is in each set whose context has it, and in one context
pub held_joined : (s c t d : Bool) → (c ≡ true → s ≡ true) → (d ≡ true → t ≡ true) → (c || d) ≡ true → ((s && (t || not d)) || (t && (s || not c))) ≡ true
held_joined true c true d f g h = refl
held_joined true c false true f g h = absurd (false≢true (g refl))
held_joined true c false false f g h = refl
held_joined false true t d f g h = absurd (false≢true (f refl))
held_joined false false true d f g h = refl
held_joined false false false true f g h = absurd (false≢true (g refl))
held_joined false false false false f g h = absurd (false≢true h)

-- a dot stays in a join with a side that has it neither in its set nor in its context
stays_alone : (s c t d : Bool) → t ≡ false → (s ≡ true → d ≡ false) → ((s && (t || not d)) || (t && (s || not c))) ≡ s
stays_alone s c true d e f = absurd (false≢true (sym e))
stays_alone true c false true e f = absurd (false≢true (sym (f refl)))
stays_alone true c false false e f = refl
stays_alone false c false d e f = refl

-- each context decides only at a dot of the other side's set
stays_alike : (s c t d b e : Bool) → (t ≡ true → c ≡ b) → (s ≡ true → d ≡ e) → ((s && (t || not d)) || (t && (s || not c))) ≡ ((s && (t || not e)) || (t && (s || not b)))
stays_alike true c true d b e f g = refl
stays_alike true c false d b e f g = ap (λ z. not z || false) (g refl)
stays_alike false c true d b e f g = ap (λ z. not z) (f refl)
stays_alike false c false d b e f g = refl

-- ---- the laws

none_in : (s : Dots) → ((x : Dot) → set.contains s x ≡ false) → s ≡ set.empty
none_in s h = set.same_set dots_total exact_dots s set.empty (λ x. h x ∙ sym (set.contains-empty dot_cmp x))

set_alone : (s c d : Dots) → ((x : Dot) → set.contains s x ≡ true → set.contains d x ≡ false) → join_sets s c set.empty d ≡ s
set_alone s c d h = set.same_set dots_total exact_dots (join_sets s c set.empty d) s (λ x.
    contains_join s c set.empty d x ∙ stays_alone (set.contains s x) (set.contains c x) (set.contains set.empty x) (set.contains d x) (set.contains-empty dot_cmp x) (h x))

-- the join of a set with itself is that set
pub join_same : (s c d : Dots) → join_sets s c s d ≡ s
join_same s c d = set.same_set dots_total exact_dots (join_sets s c s d) s (λ x. contains_join s c s d x ∙ stays_same (set.contains s x) (not (set.contains d x)) (not (set.contains c x)))
  where
    stays_same : (s a b : Bool) → ((s && (s || a)) || (s && (s || b))) ≡ s
    stays_same true a b = refl
    stays_same false a b = refl

pub set_laws : IsDotStore IsAny set.contains IsSetBelow join_sets set.empty is_empty_set
set_laws = record {
  refl = λ s c u x h k. h;
  trans = λ s c t d u e us ut uu cd de p q x h k. p x (q x h (cd x k)) k;
  antisymm = λ s t c us ut p q. set.same_set dots_total exact_dots s t (λ x. both_ways (set.contains s x) (set.contains t x) (λ h. q x h (us.held x h)) (λ h. p x h (ut.held x h)));
  stored = λ s c t d us ut. tt;
  comes = λ s c t d x us ut h. from_either (set.contains s x) (set.contains t x) (may_stay t d x) (may_stay s c x) (sym (contains_join s c t d x) ∙ h);
  left = λ s c t d us ut x h k. held_left (set.contains s x) (set.contains c x) (set.contains t x) (set.contains d x) (sym (contains_join s c t d x) ∙ h) k;
  right = λ s c t d us ut x h k. held_right (set.contains s x) (set.contains c x) (set.contains t x) (set.contains d x) (sym (contains_join s c t d x) ∙ h) k;
  least = λ s c t d u e us ut uu ce de p q x h k. contains_join s c t d x ∙ held_joined (set.contains s x) (set.contains c x) (set.contains t x) (set.contains d x) (p x h) (q x h) (sym (set.contains-union dots_total c d x) ∙ k);
  empty_store = tt;
  empty_has = set.contains-empty dot_cmp;
  bare = λ s u h. ap is_empty_set (none_in s h) ∙ ap (λ n. nat_eq n 0) (set.len-empty dot_cmp);
  one_empty = λ s u e. set.empty_of_len s (eqb-true _ _ e);
  cleared = λ s c d u x h k. absurd (false≢true (sym (set.contains-empty dot_cmp x) ∙ h));
  first = λ s c u x h k. absurd (false≢true (sym (set.contains-empty dot_cmp x) ∙ k));
  alone = λ s c d u h. set_alone s c d h;
  alone_right = λ s c d u h. join_turned set.empty d s c ∙ set_alone s c d h;
  again = λ s c d u. join_same s c d;
  same = λ s c d u x h k. h;
  unheard = λ s t c d h x held heard. absurd (false≢true (sym (h x held) ∙ heard));
  alike = λ s c t d b e u v f g. set.same_set dots_total exact_dots (join_sets s c t d) (join_sets s b t e) (λ x.
      contains_join s c t d x
      ∙ stays_alike (set.contains s x) (set.contains c x) (set.contains t x) (set.contains d x) (set.contains b x) (set.contains e x) (f x) (g x)
      ∙ sym (contains_join s b t e x));
}
