-- A walk through two maps at once: searches in one for the keys of the other, which skip entries below these keys.
use Rattle.std.proofs.Common.{◌≡◌, ◌∙◌, ℕ, ◌+◌, ◌<◌, ◌≤◌, zero, suc, true, List, [], ◌∷◌, ◌++◌, Some, length, get_or, take, refl, sym, ap, subst, arith}
use Rattle.std.specs.declared.cmp.Ordering.{Ordering}
use Rattle.std.specs.Ordering.{is_lt, ordering_reverse}
use Rattle.std.specs.Cmp.{IsTotalOrder}
use Rattle.std.specs.FinMap.{find}
use Rattle.std.proofs.lemmas.Bool.{and_from, and_parts}
use Rattle.std.proofs.lemmas.List.{take_all}
use Rattle.std.proofs.lemmas.List.Folds.{list_all_more}
use Rattle.std.proofs.lemmas.Map.Lookups.{CmpEqualImpliesEq}
use Rattle.dac_origins.specs.Dots.{Dots}
use Rattle.dac_origins.specs.laws.InOrder.{less}
use Rattle.dac_lattice.specs.Search.{AtEachEntry, IsInOrder}
use Rattle.dac_lattice.specs.laws.EntryLaws.{above_at, first, second}
use Rattle.dac_sorted.specs.Appending.{is_above_entries}
use Rattle.dac_sorted.specs.Parts.{HasSameFrom}
use Rattle.dac_sorted.specs.laws.Parted.{IsLeft, below_right, each_left, each_right, sorted_left, sorted_right, walk_end, walk_here, walk_next, walk_start}
use Rattle.dac_store.specs.Below.{HasLaterKeys, IsBelowAt}
use Rattle.dac_store.specs.DotMaps.{store_at}

module _ {K X : Type 0} {R : K → K → Ordering} (o : IsTotalOrder R) (exact : CmpEqualImpliesEq R) where
  -- each entry before an index is below the one there
  pub above_before : (es : List (K × X)) (i : ℕ) (d : K × X) → IsInOrder R es → i < length es → is_above_entries R (take i es) (get_or es i d).0 ≡ true
  above_before [] i d s p = absurd (omega arith)
  above_before (e ∷ es) zero d s p = refl
  above_before (e ∷ es) (suc i) d s p =
      and_from _ _ (ap is_lt (above_at o exact e.0 es i d (first _ _ s) (omega arith))) (above_before es i d (second _ _ s) (omega arith))

  -- the value at the key of the entry at an index
  pub found_before : (part old now : List (K × X)) (i : ℕ) (e : K × X) → i < length part → e ≡ get_or part i e → IsInOrder R part → HasLaterKeys R (take i part) old now → find R e.0 now ≡ find R e.0 old
  found_before part old now i e p is s later = later e.0 (subst (λ f. is_above_entries R (take i part) f.0 ≡ true) (sym is) (above_before part i e s p))

  -- after one more entry
  pub later_more : (part old now next : List (K × X)) (i : ℕ) (e : K × X) → i < length part → e ≡ get_or part i e → HasLaterKeys R (take i part) old now → HasSameFrom R e.0 now next → HasLaterKeys R (take (i + 1) part) old next
  later_more part old now next i e p is later same k above =
      let tests = and_parts (is_above_entries R (take i part) k) (is_lt (R (get_or part i e).0 k)) (sym (list_all_more (λ (f : K × X). is_lt (R f.0 k)) part i e p) ∙ above) in
      let lower : is_lt (R e.0 k) ≡ true = subst (λ f. is_lt (R f.0 k) ≡ true) (sym is) tests.1 in
      same k (ap is_lt (o.antisymm k e.0 ∙ ap ordering_reverse (less (R e.0 k) lower))) ∙ later k tests.0

  -- after one more entry, with none skipped
  pub later_same : (part old now : List (K × X)) (i : ℕ) (e : K × X) → i < length part → e ≡ get_or part i e → HasLaterKeys R (take i part) old now → HasLaterKeys R (take (i + 1) part) old now
  later_same part old now i e p is later = later_more part old now now i e p is later (λ k apart. refl)

  pub later_all : (part old now : List (K × X)) (i : ℕ) → length part ≤ i → HasLaterKeys R (take i part) old now → HasLaterKeys R part old now
  later_all part old now i p later = subst (λ m. HasLaterKeys R m old now) (take_all i part p) later

  -- each key of the second part is above those of the first
  pub above_next : (xs ys : List (K × X)) → IsInOrder R (xs ++ ys) → (i : ℕ) (d : K × X) → i < length ys → is_above_entries R xs (get_or ys i d).0 ≡ true
  above_next [] ys s i d p = refl
  above_next (x ∷ xs) ys s i d p =
      and_from _ _ (ap is_lt (above_at o exact x.0 ys i d (below_right R x.0 xs ys (first _ _ s)) p)) (above_next xs ys (second _ _ s) i d p)

-- ---- the walk through the chunks of the other map

module _ {K S : Type 0} (R : K → K → Ordering) (nothing : S) (below : S → Dots → S → Dots → Type 0) (c d : Dots) where
  -- stores are below those of another map if both maps have the same values at their keys
  each_found : (mine whole es : List (K × S)) → AtEachEntry (λ k _. find R k mine ≡ find R k whole) es → AtEachEntry (IsBelowAt R nothing below mine c d) es → AtEachEntry (IsBelowAt R nothing below whole c d) es
  each_found mine whole es same h i e p = subst (λ f. below (store_at nothing f) c (get_or es i e).1 d) (same i e p) (h i e p)

  each_turned : (mine whole es : List (K × S)) → AtEachEntry (λ k _. find R k mine ≡ find R k whole) es → AtEachEntry (IsBelowAt R nothing below whole c d) es → AtEachEntry (IsBelowAt R nothing below mine c d) es
  each_turned mine whole es same h i e p = subst (λ f. below (store_at nothing f) c (get_or es i e).1 d) (sym (same i e p)) (h i e p)

  abbrev pub IsAt : List (K × S) → K × S → Type 0
  IsAt whole e = IsBelowAt R nothing below whole c d e.0 (Some e.1)

  abbrev pub HasSame : List (K × S) → List (K × S) → K × S → Type 0
  HasSame mine whole e = find R e.0 mine ≡ find R e.0 whole

  -- the rest of one map has the same values at each remaining key of the other
  pub record IsWalking (whole other mine rest : List (K × S)) : Type 0 where
    pub walk : IsLeft (IsAt whole) rest other
    pub mine_in_order : IsInOrder R mine
    pub rest_in_order : IsInOrder R rest
    pub same : AtEachEntry (λ k _. find R k mine ≡ find R k whole) rest

  pub walking_start : (whole other mine rest : List (K × S)) → mine ≡ whole → rest ≡ other → IsInOrder R whole → IsInOrder R other → IsWalking whole other mine rest
  walking_start whole other mine rest e f s t = record {
    walk = walk_start (IsAt whole) rest other f;
    mine_in_order = subst (IsInOrder R) (sym e) s;
    rest_in_order = subst (IsInOrder R) (sym f) t;
    same = λ i x p. ap (find R (get_or rest i x).0) e;
  }

  module _ (whole other mine rest part next : List (K × S)) (split : rest ≡ part ++ next) (before : IsWalking whole other mine rest) where
    parts_in_order : IsInOrder R (part ++ next)
    parts_in_order = subst (IsInOrder R) split before.rest_in_order

    same_parts : AtEachEntry (λ k _. find R k mine ≡ find R k whole) (part ++ next)
    same_parts = subst (AtEachEntry (λ k _. find R k mine ≡ find R k whole)) split before.same

    pub part_in_order : IsInOrder R part
    part_in_order = sorted_left R part next parts_in_order

    pub walking_next : IsTotalOrder R → CmpEqualImpliesEq R → (left : List (K × S)) → AtEachEntry (IsBelowAt R nothing below mine c d) part → IsInOrder R left → HasLaterKeys R part mine left → IsWalking whole other left next
    walking_next o exact left here s later =
        record {
          walk = walk_next (IsAt whole) rest part next other split before.walk (each_found mine whole part (each_left (HasSame mine whole) part next same_parts) here);
          mine_in_order = s;
          rest_in_order = sorted_right R part next parts_in_order;
          same = λ j e q. later (get_or next j e).0 (above_next o exact part next parts_in_order j e q) ∙ each_right (HasSame mine whole) part next same_parts j e q;
        }

    pub walking_here : AtEachEntry (IsBelowAt R nothing below whole c d) other → AtEachEntry (IsBelowAt R nothing below mine c d) part
    walking_here all =
        each_turned mine whole part (each_left (HasSame mine whole) part next same_parts) (walk_here (IsAt whole) rest part next other split before.walk all)

  pub walked : (whole other mine rest : List (K × S)) → rest ≡ [] → IsWalking whole other mine rest → AtEachEntry (IsBelowAt R nothing below whole c d) other
  walked whole other mine rest none before = walk_end (IsAt whole) rest other none before.walk
