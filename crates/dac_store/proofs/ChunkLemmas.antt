-- Entries in chunks: properties of the chunks are properties of the whole, and conversely.
use Rattle.std.proofs.Common.{◌≡◌, ℕ, ◌+◌, suc, Bool, true, false, not, ◌||◌, ◌↔◌, ◌⊎◌, inl, inr, List, [], ◌∷◌, ◌++◌, get_or, refl, sym, ap, ◌∙◌, arith}
use Rattle.std.specs.declared.cmp.Ordering.{Ordering}
use Rattle.std.specs.FinMap.{find}
use Rattle.std.specs.Prelude.{IsTrue}
use Rattle.std.specs.FinSet as set
use Rattle.std.proofs.lemmas.Bool.{false≢true, or_cases}
use Rattle.std.proofs.lemmas.List.Folds.{list_any-append}
use Rattle.dac_origins.specs.Dots.{Dots}
use Rattle.dac_origins.specs.declared.dot.Dot.{Dot}
use Rattle.dac_lattice.specs.Search.{AtEachEntry}
use Rattle.dac_dots.specs.DotFilters.{AreApart, MayHaveAll, may_have}
use Rattle.dac_sorted.specs.Digests.{SaysAll}
use Rattle.dac_store.specs.Below.{IsBelowAt}
use Rattle.dac_store.specs.Chunks.{MayHold}
use Rattle.dac_store.specs.DotMaps.{has_in, store_at}
use Rattle.dac_store.specs.Stores.{IsDotStore, IsUnheard}
use Rattle.dac_store.proofs.Passing.{has_at}

-- ---- the dots of stores in chunks

module _ {K S : Type 0} (has : S → Dot → Bool) where
  has_parts : (xs ys : List (K × S)) (x : Dot) → has_in has (xs ++ ys) x ≡ (has_in has xs x || has_in has ys x)
  has_parts xs ys x = list_any-append (λ (e : K × S). has e.1 x) xs ys

  has_either : (xs ys : List (K × S)) (x : Dot) → has_in has (xs ++ ys) x ≡ true → (has_in has xs x ≡ true) ⊎ (has_in has ys x ≡ true)
  has_either xs ys x e = or_cases (has_in has xs x) (has_in has ys x) (sym (has_parts xs ys x) ∙ e)

-- ---- filters of chunks

pub not_there : (c may : Bool) → (c ≡ true → may ≡ true) → may ≡ false → c ≡ false
not_there true may f e = absurd (false≢true (sym e ∙ f refl))
not_there false may f e = refl

-- if no slot is set in both filters, the context has none of the dots
pub one_unheard : {S : Type 0} (has : S → Dot → Bool) (s : S) (slots others : List ℕ) (heard : Dots) → MayHold has slots s → MayHaveAll others heard → AreApart slots others → IsUnheard (has s) heard
one_unheard has s slots others heard says all apart x e = not_there (set.contains heard x) (may_have others x) (all x) (apart x (says x e))

module _ {K S : Type 0} (has : S → Dot → Bool) where
  -- what holds of the dots of each store holds of those of all
  pub all_dots : (Q : Dot → Type 0) (m : List (K × S)) → SaysAll (λ _ s. (x : Dot) → has s x ≡ true → Q x) m → (x : Dot) → has_in has m x ≡ true → Q x
  all_dots Q [] all x e = absurd (false≢true e)
  all_dots Q (f ∷ m) all x e = elim (or_cases (has f.1 x) (has_in has m x) e) [
    | inl here ↦ all 0 f (omega arith) x here
    | inr later ↦ all_dots Q m (λ i d p. all (suc i) d (omega arith)) x later
  ]

  pub each_dots : (Q : Dot → Type 0) (m : List (K × S)) → ((x : Dot) → has_in has m x ≡ true → Q x) → SaysAll (λ _ s. (x : Dot) → has s x ≡ true → Q x) m
  each_dots Q m all i e p x h = all x (has_at has m i e x p h)

  lacks_all : (m : List (K × S)) (x : Dot) → SaysAll (λ _ s. has s x ≡ false) m → has_in has m x ≡ false
  lacks_all [] x all = refl
  lacks_all (f ∷ m) x all = ap (λ b. b || has_in has m x) (all 0 f (omega arith)) ∙ lacks_all m x (λ i d p. all (suc i) d (omega arith))

  -- a map has a dot unless each of its stores lacks it
  pub has_unless : (m : List (K × S)) (x : Dot) (r : Bool) → IsTrue r ↔ SaysAll (λ _ s. has s x ≡ false) m → not r ≡ has_in has m x
  has_unless m x true all = sym (lacks_all m x (all.0 refl))
  has_unless m x false all = elim (has_in has m x) as (λ b. has_in has m x ≡ b → true ≡ b) [
    | true ↦ λ e. refl
    | false ↦ λ e. absurd (false≢true (all.1 (λ i f p. not_there (has (get_or m i f).1 x) (has_in has m x) (has_at has m i f x p) e)))
  ] refl

  pub apart_unheard : (m : List (K × S)) (slots others : List ℕ) (heard : Dots) → SaysAll (λ _ s. MayHold has slots s) m → MayHaveAll others heard → AreApart slots others → IsUnheard (has_in has m) heard
  apart_unheard m slots others heard says all apart = all_dots (λ x. set.contains heard x ≡ false) m (λ i e p. one_unheard has (get_or m i e).1 slots others heard (says i e p) all apart)

  -- the dots of one entry
  pub one_has : (e : K × S) (x : Dot) → has_in has (e ∷ []) x ≡ true → has e.1 x ≡ true
  one_has e x h = elim (or_cases (has e.1 x) false h) [ inl here ↦ here | inr none ↦ absurd (false≢true none) ]

  -- each dot of the entries is in the filter, or among the remaining ones
  pub record IsFilling (whole left : List (K × S)) (old slots : List ℕ) : Type 0 where
    pub own : (x : Dot) → has_in has whole x ≡ true → (has_in has left x ≡ true) ⊎ (may_have slots x ≡ true)
    pub more : (x : Dot) → may_have old x ≡ true → may_have slots x ≡ true

  pub filling_start : (whole left : List (K × S)) (slots : List ℕ) → left ≡ whole → IsFilling whole left slots slots
  filling_start whole left slots e = record { own = λ x h. inl (ap (λ m. has_in has m x) e ∙ h); more = λ x h. h }

  -- the dots of the first of the remaining entries are put into the filter too
  pub filling_more : (whole now part next : List (K × S)) (old slots new : List ℕ) → now ≡ part ++ next → IsFilling whole now old slots → ((x : Dot) → has_in has part x ≡ true → may_have new x ≡ true) → ((x : Dot) → may_have slots x ≡ true → may_have new x ≡ true)
      → IsFilling whole next old new
  filling_more whole now part next old slots new is before own more = record {
    own = λ x h. elim (before.own x h) [
      | inl left ↦ elim (has_either has part next x (ap (λ m. has_in has m x) (sym is) ∙ left)) [
        | inl here ↦ inr (own x here)
        | inr later ↦ inl later
      ]
      | inr there ↦ inr (more x there)
    ];
    more = λ x h. more x (before.more x h);
  }

  pub all_filled : (whole : List (K × S)) (old slots : List ℕ) → IsFilling whole [] old slots → (x : Dot) → has_in has whole x ≡ true → may_have slots x ≡ true
  all_filled whole old slots done x h = elim (done.own x h) [ inl none ↦ absurd (false≢true none) | inr there ↦ there ]

-- entries whose dots the context lacks
module _ {S : Type 0} {is_store : S → Type 0} {has : S → Dot → Bool} {below : S → Dots → S → Dots → Type 0} {join : S → Dots → S → Dots → S} {nothing : S} {is_empty : S → Bool} (laws : IsDotStore is_store has below join nothing is_empty) where
  pub each_unheard : {K : Type 0} (R : K → K → Ordering) (mine block : List (K × S)) (c d : Dots) → IsUnheard (has_in has block) c → AtEachEntry (IsBelowAt R nothing below mine c d) block
  each_unheard R mine block c d u i e p = laws.unheard (store_at nothing (find R (get_or block i e).0 mine)) (get_or block i e).1 c d (λ x h. u x (has_at has block i e x p h))
