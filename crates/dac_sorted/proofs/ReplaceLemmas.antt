-- A block replaced by others.
use Rattle.std.proofs.Common.{◌≡◌, ℕ, ◌+◌, ◌<◌, ◌≤◌, zero, suc, true, List, [], ◌∷◌, ◌++◌, length, get_or, take, drop, slice_set, sym, ap, subst, ◌∙◌, arith, append_assoc, take-append-drop, length-append}
use Rattle.std.specs.declared.cmp.Ordering.{Ordering}
use Rattle.std.specs.List.{flat_map, insert}
use Rattle.std.proofs.lemmas.Grind.{flat_map-append}
use Rattle.std.proofs.lemmas.List.{drop_at, drop-set, length-take, length-take-le, take_at, take-append-le, take-set}
use Rattle.std.proofs.lemmas.List.Elements.{All-append, All-set}
use Rattle.dac_lattice.specs.Search.{IsInOrder}
use Rattle.dac_sorted.specs.Appending.{is_above_entries}
use Rattle.dac_sorted.specs.Parts.{HaveEntries, IsPlaceOf, IsReplaced}
use Rattle.dac_sorted.specs.laws.Parted.{each_left, each_right, sorted_left, sorted_right}
use Rattle.dac_sorted.proofs.PartLemmas.{next_block}

module _ {E B : Type 0} (value : B → List E) where
  -- the entries before, in and after a block
  pub split_at : (blocks : List B) (i : ℕ) (b : B) → i < length blocks → b ≡ get_or blocks i b → flat_map value blocks ≡ flat_map value (take i blocks) ++ (value b ++ flat_map value (drop (i + 1) blocks))
  split_at blocks i b p is =
      sym (ap (flat_map value) (take-append-drop i blocks))
      ∙ flat_map-append value (take i blocks) (drop i blocks)
      ∙ ap (λ l. flat_map value (take i blocks) ++ l) (next_block value blocks i b p is)

  pub replaced_all : (old new : List B) (i : ℕ) (es : List E) → IsReplaced value i es old new → flat_map value new ≡ flat_map value (take i old) ++ (es ++ flat_map value (drop (i + 1) old))
  replaced_all old new i es made =
      sym (ap (flat_map value) (take-append-drop i new))
      ∙ flat_map-append value (take i new) (drop i new)
      ∙ (λ k. flat_map value (made.before k) ++ made.after k)

  -- by one block
  pub one_replaced : (blocks : List B) (i : ℕ) (b : B) → i < length blocks → IsReplaced value i (value b) blocks (slice_set blocks i b)
  one_replaced blocks i b p = record { before = take-set blocks i b; after = ap (flat_map value) (drop-set blocks i b p) }

  take_again : (i : ℕ) (xs : List B) → i < length xs → take i (take (i + 1) xs) ≡ take i xs
  take_again i xs p =
      let long = length-take-le (i + 1) xs (omega arith) in
      sym (take-append-le i (take (i + 1) xs) (drop (i + 1) xs) (omega (arith, long)))
      ∙ ap (take i) (take-append-drop (i + 1) xs)

  -- by two blocks
  pub two_replaced : (blocks : List B) (i : ℕ) (lower upper : B) → i < length blocks → IsReplaced value i (value lower ++ value upper) blocks (slice_set (insert blocks (i + 1) upper) i lower)
  two_replaced blocks i lower upper p =
      let before = take (i + 1) blocks in
      let after = drop (i + 1) blocks in
      let long = length-take-le (i + 1) blocks (omega arith) in
      let all = length-append before (upper ∷ after) in
      record {
        before =
            take-set (before ++ upper ∷ after) i lower
            ∙ take-append-le i before (upper ∷ after) (omega (arith, long))
            ∙ take_again i blocks p;
        after =
            ap (flat_map value) (drop-set (before ++ upper ∷ after) i lower (omega (arith, long, all)))
            ∙ ap (λ l. value lower ++ flat_map value l) (drop_at before (upper ∷ after) (i + 1) long)
            ∙ sym (append_assoc (value lower) (value upper) (flat_map value after));
      }

  -- by a block with the same entries
  pub same_block : (blocks : List B) (i : ℕ) (b new : B) → i < length blocks → b ≡ get_or blocks i b → value new ≡ value b → flat_map value (slice_set blocks i new) ≡ flat_map value blocks
  same_block [] i b new p is same = absurd (omega arith)
  same_block (c ∷ blocks) zero b new p is same = ap (λ l. l ++ flat_map value blocks) (same ∙ ap value is)
  same_block (c ∷ blocks) (suc i) b new p is same = ap (λ l. value c ++ l) (same_block blocks i b new (omega arith) is same)

  -- the block before goes, and its entries are among those of the new blocks
  pub still_long : (old mid : List B) (n : ℕ) → n ≤ length old → take n mid ≡ take n old → n ≤ length mid
  still_long old mid n p same =
      let long = ap length same in
      let short = length-take n mid in
      let all = length-take-le n old p in
      omega (arith, long, short, all)

  pub joined_replaced : (old mid : List B) (i : ℕ) (b : B) (es : List E) → i + 1 < length old → b ≡ get_or old (i + 1) b → IsReplaced value (i + 1) (es ++ value b) old mid → IsReplaced value i es old (take i mid ++ drop (i + 1) mid)
  joined_replaced old mid i b es p is made =
      let within = still_long old mid (i + 1) (omega arith) made.before in
      let long = length-take-le i mid (omega arith) in
      record {
        before =
            take_at (take i mid) (drop (i + 1) mid) i long
            ∙ sym (take_again i mid (omega arith))
            ∙ ap (take i) made.before
            ∙ take_again i old (omega arith);
        after =
            ap (flat_map value) (drop_at (take i mid) (drop (i + 1) mid) i long)
            ∙ made.after
            ∙ append_assoc es (value b) (flat_map value (drop (i + 1 + 1) old))
            ∙ ap (λ l. es ++ l) (sym (next_block value old (i + 1) b p is));
      }

  -- ---- no block gets empty

  pub filled_removed : (blocks : List B) (i : ℕ) → HaveEntries value blocks → HaveEntries value (take i blocks ++ drop (i + 1) blocks)
  filled_removed blocks i full =
      let some = λ (b : B). 0 < length (value b) in
      let all = (λ (n : ℕ). subst (HaveEntries value) (sym (take-append-drop n blocks)) full) in
      All-append some (take i blocks) (drop (i + 1) blocks) (each_left some (take i blocks) (drop i blocks) (all i)) (each_right some (take (i + 1) blocks) (drop (i + 1) blocks) (all (i + 1)))

  pub filled_set : (blocks : List B) (i : ℕ) (b : B) → HaveEntries value blocks → 0 < length (value b) → HaveEntries value (slice_set blocks i b)
  filled_set blocks i b full here = All-set (λ b. 0 < length (value b)) blocks i b here full

-- the entries of one block are in order
pub block_in_order : {K X B : Type 0} (R : K → K → Ordering) (value : B → List (K × X)) (blocks : List B) (i : ℕ) (b : B) → IsInOrder R (flat_map value blocks) → i < length blocks → b ≡ get_or blocks i b → IsInOrder R (value b)
block_in_order R value blocks i b s p is =
    let after = flat_map value (drop (i + 1) blocks) in
    sorted_left R (value b) after (sorted_right R (flat_map value (take i blocks)) (value b ++ after) (subst (IsInOrder R) (split_at value blocks i b p is) s))

-- the place of a key, after a block is replaced by one with the same entries
pub same_place : {K X B : Type 0} (R : K → K → Ordering) (value : B → List (K × X)) (k : K) (blocks : List B) (i : ℕ) (b new : B) → i < length blocks → b ≡ get_or blocks i b → value new ≡ value b → IsPlaceOf R value k blocks i → IsPlaceOf R value k (slice_set blocks i new) i
same_place R value k [] i b new p is same place = absurd (omega arith)
same_place R value k (c ∷ blocks) zero b new p is same place = record {
  within = omega arith;
  below = λ j d q r. absurd (omega arith);
  not_below = λ d q e. ap (λ x. is_above_entries R (value x) k) e ∙ ap (λ l. is_above_entries R l k) same ∙ place.not_below b p is;
}
same_place R value k (c ∷ blocks) (suc i) b new p is same place =
    let rest = same_place R value k blocks i b new (omega arith) is same (record {
      within = let w = place.within in omega (arith, w);
      below = λ j d q r. place.below (suc j) d (omega arith) (omega arith);
      not_below = λ d q e. place.not_below d (omega arith) e;
    }) in
    record {
      within = let w = rest.within in omega (arith, w);
      below = λ j d q r. elim j as (λ j. j < suc i → is_above_entries R (value (get_or (c ∷ slice_set blocks i new) j d)) k ≡ true) [
        | zero ↦ λ r. place.below 0 d (omega arith) (omega arith)
        | suc n ↦ λ r. rest.below n d (omega arith) (omega arith)
      ] r;
      not_below = λ d q e. rest.not_below d (omega arith) e;
    }
