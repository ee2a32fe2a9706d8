-- Lists in parts: properties of the parts are properties of the whole, and conversely.
use Rattle.std.specs.Prelude.{◌≡◌, ◌+◌, ◌<◌, T, List, [], ◌∷◌, ◌++◌, length}
use Rattle.std.proofs.Common.{suc, sym, ap, subst, ◌∙◌, arith, length-append}
use Rattle.std.specs.declared.cmp.Ordering.{Ordering}
use Rattle.std.specs.List.{All}
use Rattle.std.specs.FinMap.Entries.{below_all}
use Rattle.std.proofs.lemmas.List.{get_or_append_left}
use Rattle.std.proofs.lemmas.List.Elements.{All-append}
use Rattle.std.proofs.Math.Facts.{yes_and}
use Rattle.dac_lattice.specs.Search.{IsInOrder}
use Rattle.dac_lattice.specs.laws.EntryLaws.{first, second}

-- ---- properties of each element

module _ {E : Type 0} (P : E → Type 0) where
  pub each_left : (xs ys : List E) → All P (xs ++ ys) → All P xs
  each_left xs ys all i d p =
      let long = length-append xs ys in
      subst P (get_or_append_left xs ys d i p) (all i d (omega (arith, long, p)))

  pub each_right : (xs ys : List E) → All P (xs ++ ys) → All P ys
  each_right [] ys all = all
  each_right (x ∷ xs) ys all = each_right xs ys (λ i d p. all (suc i) d (omega arith))

  -- the whole list has the property exactly if the rest has it
  pub record IsLeft (now whole : List E) : Type 0 where
    pub up : All P now → All P whole
    pub down : All P whole → All P now

  pub walk_start : (now whole : List E) → now ≡ whole → IsLeft now whole
  walk_start now whole e = record { up = subst (All P) e; down = subst (All P) (sym e) }

  module _ (now part next whole : List E) (split : now ≡ part ++ next) (before : IsLeft now whole) where
    -- the next part has the property
    pub walk_next : All P part → IsLeft next whole
    walk_next here = record {
      up = λ q. before.up (subst (All P) (sym split) (All-append P part next here q));
      down = λ w. each_right part next (subst (All P) split (before.down w));
    }

    -- if the whole has the property, so does the next part
    pub walk_here : All P whole → All P part
    walk_here w = each_left part next (subst (All P) split (before.down w))

  -- no part remains
  pub walk_end : (now whole : List E) → now ≡ [] → IsLeft now whole → All P whole
  walk_end now whole none before = before.up (subst (All P) (sym none) (λ i d p. absurd (omega arith)))

-- fewer elements remain
pub fewer_left : {E : Type 0} (now part next : List E) → now ≡ part ++ next → 0 < length part → length next < length now
fewer_left now part next split some = let long = ap length split ∙ length-append part next in omega (arith, long, some)

pub shorter : {E : Type 0} (now next : List E) (e : E) → now ≡ e ∷ next → length next < length now
shorter now next e split = fewer_left now (e ∷ []) next split (omega arith)

-- ---- keys in order

module _ {K X : Type 0} (R : K → K → Ordering) where
  pub below_left : (k : K) (xs ys : List (K × X)) → T (below_all R k (xs ++ ys)) → T (below_all R k xs)
  below_left k [] ys h = tt
  below_left k (x ∷ xs) ys h = yes_and _ _ (first _ _ h) (below_left k xs ys (second _ _ h))

  pub below_right : (k : K) (xs ys : List (K × X)) → T (below_all R k (xs ++ ys)) → T (below_all R k ys)
  below_right k [] ys h = h
  below_right k (x ∷ xs) ys h = below_right k xs ys (second _ _ h)

  pub sorted_left : (xs ys : List (K × X)) → IsInOrder R (xs ++ ys) → IsInOrder R xs
  sorted_left [] ys h = tt
  sorted_left (x ∷ xs) ys h = yes_and _ _ (below_left x.0 xs ys (first _ _ h)) (sorted_left xs ys (second _ _ h))

  pub sorted_right : (xs ys : List (K × X)) → IsInOrder R (xs ++ ys) → IsInOrder R ys
  sorted_right [] ys h = h
  sorted_right (x ∷ xs) ys h = sorted_right xs ys (second _ _ h)
