-- Entries in parts: properties of the parts are properties of the whole, and conversely.
use Rattle.std.proofs.Common.{◌≡◌, ℕ, ◌+◌, ◌-◌, ◌<◌, ◌≤◌, zero, suc, Bool, true, false, cond, ◌&&◌, T, List, [], ◌∷◌, ◌++◌, Some, length, get_or, take, drop, refl, sym, ap, subst, ◌∙◌, arith, append_assoc, append-nil, length-append, take-append-drop}
use Rattle.std.specs.declared.cmp.Ordering.{Ordering}
use Rattle.std.specs.declared.cmp.Ordering.TheVariants.{Less, Equal, Greater}
use Rattle.std.specs.Ordering.{is_lt, is_eq, eq_by_cmp, ordering_reverse}
use Rattle.std.specs.Cmp.{IsTotalOrder}
use Rattle.std.specs.List.{flat_map, All, AllWithin}
use Rattle.std.specs.List.Sorted.{IsPartitionPoint, IsPartitionedBy}
use Rattle.std.specs.FinMap.{find}
use Rattle.std.specs.FinMap.Entries.{below_all}
use Rattle.std.proofs.lemmas.Bool.{false≢true, and_parts}
use Rattle.std.proofs.lemmas.Grind.{flat_map-append}
use Rattle.std.proofs.lemmas.List.{drop_all, drop_more, take_all, take_more}
use Rattle.std.proofs.lemmas.List.Elements.{All-push, All-tail}
use Rattle.std.proofs.lemmas.List.Folds.{list_all-append}
use Rattle.std.proofs.lemmas.Map.Lookups.{CmpEqualImpliesEq}
use Rattle.dac_origins.specs.laws.KeyLaws.{greater}
use Rattle.dac_lattice.specs.Search.{IsInOrder}
use Rattle.dac_lattice.specs.laws.Entries.{find_below, below_more}
use Rattle.dac_lattice.specs.laws.EntryLaws.{first, second, less}
use Rattle.dac_sorted.specs.Appending.{is_above_entries}
use Rattle.dac_sorted.specs.laws.Appending.{above_before, above_last_entry}
use Rattle.dac_sorted.specs.laws.Parted.{below_left, sorted_left, sorted_right}
use Rattle.dac_sorted.specs.Parts.{HaveEntries, IsPartAt, IsPlaceOf}

-- ---- the blocks from an index on

module _ {E B : Type 0} (value : B → List E) where
  -- the entries of the blocks from an index on, and those after them
  abbrev pub rest_of : List B → List E → ℕ → List E
  rest_of blocks last i = flat_map value (drop i blocks) ++ last

  pub next_block : (blocks : List B) (i : ℕ) (b : B) → i < length blocks → b ≡ get_or blocks i b → flat_map value (drop i blocks) ≡ value b ++ flat_map value (drop (i + 1) blocks)
  next_block blocks i b p is = ap (flat_map value) (drop_more blocks i b p ∙ ap (λ (d : B). d ∷ drop (i + 1) blocks) (sym is))

  -- the block at an index, before the later ones
  pub rest_step : (blocks : List B) (last : List E) (i : ℕ) (b : B) → i < length blocks → b ≡ get_or blocks i b → rest_of blocks last i ≡ value b ++ rest_of blocks last (i + 1)
  rest_step blocks last i b p is =
      ap (λ l. l ++ last) (next_block blocks i b p is)
      ∙ append_assoc (value b) (flat_map value (drop (i + 1) blocks)) last

  -- no block remains
  pub rest_last : (blocks : List B) (last : List E) (i : ℕ) → length blocks ≤ i → rest_of blocks last i ≡ last
  rest_last blocks last i p = ap (λ (l : List B). flat_map value l ++ last) (drop_all i blocks p)

  -- only the last entries are counted
  pub none_counted : (blocks : List B) (last whole : List E) → whole ≡ flat_map value blocks ++ last → length last + length (flat_map value blocks) ≡ length whole
  none_counted blocks last whole e =
      let sum : length whole ≡ length (flat_map value blocks) + length last = ap length e ∙ length-append (flat_map value blocks) last in
      omega (arith, sum)

  -- one more block is counted
  pub one_counted : (blocks : List B) (i n m : ℕ) (b : B) (whole : ℕ) → i < length blocks → b ≡ get_or blocks i b → n + length (flat_map value (drop i blocks)) ≡ whole → m ≡ n + length (value b)
      → m + length (flat_map value (drop (i + 1) blocks)) ≡ whole
  one_counted blocks i n m b whole p is so_far more =
      let split : length (flat_map value (drop i blocks)) ≡ length (value b) + length (flat_map value (drop (i + 1) blocks)) = ap length (next_block blocks i b p is) ∙ length-append (value b) (flat_map value (drop (i + 1) blocks)) in
      omega (arith, so_far, more, split)

  -- all blocks are counted
  pub all_counted : (blocks : List B) (i n whole : ℕ) → length blocks ≤ i → n + length (flat_map value (drop i blocks)) ≡ whole → n ≡ whole
  all_counted blocks i n whole p e =
      let none : length (flat_map value (drop i blocks)) ≡ 0 = ap (λ (l : List B). length (flat_map value l)) (drop_all i blocks p) in
      omega (arith, none, e)

  -- one more block at the end
  pub one_sealed : (blocks new : List B) (b : B) (es : List E) → new ≡ blocks ++ b ∷ [] → value b ≡ es → flat_map value new ≡ flat_map value blocks ++ es
  one_sealed blocks new b es pushed is =
      ap (flat_map value) pushed
      ∙ flat_map-append value blocks (b ∷ [])
      ∙ ap (λ l. flat_map value blocks ++ l) (append-nil (value b) ∙ is)

  -- the new block has entries
  pub one_filled : (blocks new : List B) (b : B) → HaveEntries value blocks → new ≡ blocks ++ b ∷ [] → 0 < length (value b) → HaveEntries value new
  one_filled blocks new b full pushed here = subst (HaveEntries value) (sym pushed) (All-push (λ b. 0 < length (value b)) blocks b full here)

  -- one more block is shared
  pub one_shared : (blocks done new : List B) (i : ℕ) (b c : B) → i < length blocks → b ≡ get_or blocks i b → flat_map value done ≡ flat_map value (take i blocks) → value c ≡ value b → new ≡ done ++ c ∷ []
      → flat_map value new ≡ flat_map value (take (i + 1) blocks)
  one_shared blocks done new i b c p is so_far same pushed =
      one_sealed done new c (value b) pushed same
      ∙ ap (λ l. l ++ value b) so_far
      ∙ sym (one_sealed (take i blocks) (take (i + 1) blocks) (get_or blocks i b) (value b) (take_more blocks i b p) (ap value (sym is)))

  pub all_shared : (blocks done : List B) (i : ℕ) → length blocks ≤ i → flat_map value done ≡ flat_map value (take i blocks) → flat_map value done ≡ flat_map value blocks
  all_shared blocks done i p so_far = so_far ∙ ap (flat_map value) (take_all i blocks p)

  -- the first of the last entries are now in a block
  pub same_sealed : (blocks new : List B) (last rest whole : List E) (n : ℕ) → flat_map value blocks ++ last ≡ whole → flat_map value new ≡ flat_map value blocks ++ take n last → rest ≡ drop n last → flat_map value new ++ rest ≡ whole
  same_sealed blocks new last rest whole n is sealed left =
      (λ k. sealed k ++ left k)
      ∙ append_assoc (flat_map value blocks) (take n last) (drop n last)
      ∙ ap (λ l. flat_map value blocks ++ l) (take-append-drop n last)
      ∙ is

  -- all entries are in blocks, and one more block is shared
  pub then_shared : (blocks sealed new : List B) (last rest whole es : List E) (b : B) → flat_map value blocks ++ last ≡ whole → flat_map value sealed ≡ flat_map value blocks ++ last → rest ≡ [] → new ≡ sealed ++ b ∷ [] → value b ≡ es
      → flat_map value new ++ rest ≡ whole ++ es
  then_shared blocks sealed new last rest whole es b is all none pushed same =
      (λ k. one_sealed sealed new b es pushed same k ++ none k)
      ∙ append-nil (flat_map value sealed ++ es)
      ∙ ap (λ l. l ++ es) (all ∙ is)

-- one more entry is copied
pub copied_more : {K V : Type 0} (whole had done new : List (K × V)) (i : ℕ) (e : K × V) (v : V) → i < length whole → e ≡ get_or whole i e → done ≡ had ++ take i whole → v ≡ e.1 → new ≡ done ++ (e.0, v) ∷ [] → new ≡ had ++ take (i + 1) whole
copied_more {K} {V} whole had done new i e v p is so_far same pushed =
    pushed
    ∙ ap (λ es. es ++ (e.0, v) ∷ []) so_far
    ∙ append_assoc had (take i whole) ((e.0, v) ∷ [])
    ∙ ap (λ l. had ++ l) (ap (λ (f : K × V). take i whole ++ f ∷ []) (ap (λ (t : V). (e.0, t)) same ∙ is) ∙ sym (take_more whole i e p))

-- no entry is left
pub none_left : {E : Type 0} (last : List E) → length last ≤ 0 → last ≡ []
none_left [] p = refl
none_left (e ∷ es) p = absurd (omega arith)

-- ---- keys in order

module _ {K X : Type 0} (R : K → K → Ordering) where
  -- the blocks' entries are in order
  pub blocks_sorted : {B : Type 0} (value : B → List (K × X)) (blocks : List B) (last whole : List (K × X)) → flat_map value blocks ++ last ≡ whole → IsInOrder R whole → IsInOrder R (flat_map value blocks)
  blocks_sorted value blocks last whole split s = sorted_left R (flat_map value blocks) last (subst (IsInOrder R) (sym split) s)

  -- a key is above the entries of the whole exactly if it is above those of each part
  above_parts : (k : K) (xs ys : List (K × X)) → is_above_entries R (xs ++ ys) k ≡ (is_above_entries R xs k && is_above_entries R ys k)
  above_parts k xs ys = list_all-append (λ (e : K × X). is_lt (R e.0 k)) xs ys

module _ {K : Type 0} {R : K → K → Ordering} (o : IsTotalOrder R) where
  pub lower : (x k : K) → is_lt (R x k) ≡ true → eq_by_cmp R k x ≡ false
  lower x k e = ap is_eq (greater o x k (less (R x k) (subst T (sym e) tt)))

module _ {K X : Type 0} {R : K → K → Ordering} (o : IsTotalOrder R) (exact : CmpEqualImpliesEq R) where
  -- after a part whose keys are all below the key
  find_past : (k : K) (xs ys : List (K × X)) → is_above_entries R xs k ≡ true → find R k (xs ++ ys) ≡ find R k ys
  find_past k [] ys h = refl
  find_past k (x ∷ xs) ys h =
      ap (λ t. cond t (Some x.1) (find R k (xs ++ ys))) (lower o x.0 k (and_parts _ _ h).0)
      ∙ find_past k xs ys (and_parts _ _ h).1

  -- in a part with a key that isn't below the key
  pub find_here : (k : K) (xs ys : List (K × X)) → IsInOrder R (xs ++ ys) → is_above_entries R xs k ≡ false → find R k (xs ++ ys) ≡ find R k xs
  find_here k [] ys s h = absurd (false≢true (sym h))
  find_here k (x ∷ xs) ys s h = elim (R x.0 k) as (λ r. R x.0 k ≡ r → find R k (x ∷ xs ++ ys) ≡ find R k (x ∷ xs)) [
    | Less ↦ λ e. ap (λ f. cond (eq_by_cmp R k x.0) (Some x.1) f) (find_here k xs ys (second _ _ s) (sym (ap (λ r. is_lt r && is_above_entries R xs k) e) ∙ h))
    | Equal ↦ λ e. ap (λ t. cond t (Some x.1) (find R k (xs ++ ys))) (tied e) ∙ sym (ap (λ t. cond t (Some x.1) (find R k xs)) (tied e))
    | Greater ↦ λ e.
        let under : T (below_all R k (xs ++ ys)) = below_more o exact k x.0 (xs ++ ys) (o.antisymm k x.0 ∙ ap ordering_reverse e) (first _ _ s) in
        ap (λ f. cond (eq_by_cmp R k x.0) (Some x.1) f) (find_below o exact k (xs ++ ys) under ∙ sym (find_below o exact k xs (below_left R k xs ys under)))
  ] refl
    where
      tied : R x.0 k ≡ Equal → eq_by_cmp R k x.0 ≡ true
      tied e = ap is_eq (o.antisymm k x.0 ∙ ap ordering_reverse e)

  -- ---- the part that would contain a key

  pub part_whole : (k : K) (whole now : List (K × X)) → IsInOrder R whole → whole ≡ now → IsPartAt R k whole now
  part_whole k whole now s e = record {
    in_order = subst (IsInOrder R) e s;
    found = ap (find R k) (sym e);
    above = ap (λ m. is_above_entries R m k) (sym e);
  }

  module _ {B : Type 0} (value : B → List (K × X)) (k : K) (blocks : List B) (last : List (K × X)) (i : ℕ) (b : B) (whole : List (K × X)) (p : i < length blocks) (is : b ≡ get_or blocks i b) (part : IsPartAt R k whole (rest_of value blocks last i)) where
    part_sorted : IsInOrder R (value b ++ rest_of value blocks last (i + 1))
    part_sorted = subst (IsInOrder R) (rest_step value blocks last i b p is) part.in_order

    part_found : find R k (value b ++ rest_of value blocks last (i + 1)) ≡ find R k whole
    part_found = ap (find R k) (sym (rest_step value blocks last i b p is)) ∙ part.found

    part_above : (is_above_entries R (value b) k && is_above_entries R (rest_of value blocks last (i + 1)) k) ≡ is_above_entries R whole k
    part_above =
        sym (above_parts R k (value b) (rest_of value blocks last (i + 1)))
        ∙ ap (λ m. is_above_entries R m k) (sym (rest_step value blocks last i b p is))
        ∙ part.above

    pub block_sorted : IsInOrder R (value b)
    block_sorted = sorted_left R (value b) (rest_of value blocks last (i + 1)) part_sorted

    -- after a block below the key
    pub part_past : is_above_entries R (value b) k ≡ true → IsPartAt R k whole (rest_of value blocks last (i + 1))
    part_past all = record {
      in_order = sorted_right R (value b) (rest_of value blocks last (i + 1)) part_sorted;
      found = sym (find_past k (value b) (rest_of value blocks last (i + 1)) all) ∙ part_found;
      above = sym (ap (λ t. t && is_above_entries R (rest_of value blocks last (i + 1)) k) all) ∙ part_above;
    }

    -- at a block that isn't below the key
    pub part_here : is_above_entries R (value b) k ≡ false → IsPartAt R k whole (value b)
    part_here not = record {
      in_order = block_sorted;
      found = sym (find_here k (value b) (rest_of value blocks last (i + 1)) part_sorted not) ∙ part_found;
      above = not ∙ sym (ap (λ t. t && is_above_entries R (rest_of value blocks last (i + 1)) k) not) ∙ part_above;
    }

  -- ---- a search among blocks

  module _ {B : Type 0} (value : B → List (K × X)) (k : K) where
    abbrev is_below : B → Bool
    is_below b = is_above_entries R (value b) k

    -- whether the block's last key is below the key
    abbrev pub last_below : B → Bool
    last_below b = is_above_entries R (drop (length (value b) - 1) (value b)) k

    last_decides : (blocks : List B) (i : ℕ) (d : B) → IsInOrder R (flat_map value blocks) → i < length blocks → last_below (get_or blocks i d) ≡ is_below (get_or blocks i d)
    last_decides [] i d s p = absurd (omega arith)
    last_decides (b ∷ blocks) zero d s p = above_last_entry o (value b) k (sorted_left R (value b) (flat_map value blocks) s)
    last_decides (b ∷ blocks) (suc i) d s p = last_decides blocks i d (sorted_right R (value b) (flat_map value blocks) s) (omega arith)

    -- if a block is below the key, so are the entries before it
    below_before : (xs : List (K × X)) (blocks : List B) (i : ℕ) (d : B) → IsInOrder R (xs ++ flat_map value blocks) → HaveEntries value blocks → i < length blocks → is_below (get_or blocks i d) ≡ true → is_above_entries R xs k ≡ true
    below_before xs [] i d s full p h = absurd (omega arith)
    below_before xs (b ∷ blocks) i d s full p h =
        let next : IsInOrder R ((xs ++ value b) ++ flat_map value blocks) = subst (IsInOrder R) (sym (append_assoc xs (value b) (flat_map value blocks))) s in
        elim i as (λ i. i < length (b ∷ blocks) → is_below (get_or (b ∷ blocks) i d) ≡ true → is_above_entries R xs k ≡ true) [
          | zero ↦ λ p h. above_before o xs (value b) k (sorted_left R (xs ++ value b) (flat_map value blocks) next) (full 0 b (omega arith)) h
          | suc j ↦ λ p h. (and_parts _ _ (sym (above_parts R k xs (value b)) ∙ below_before (xs ++ value b) blocks j d next (All-tail (λ b. 0 < length (value b)) b blocks full) (omega arith) h)).0
        ] p h

    parted : (blocks : List B) → IsInOrder R (flat_map value blocks) → HaveEntries value blocks → IsPartitionedBy is_below blocks
    parted [] s full i j d q p h = absurd (omega arith)
    parted (b ∷ blocks) s full zero zero d q p h = h
    parted (b ∷ blocks) s full zero (suc j) d q p h = below_before (value b) blocks j d s (All-tail (λ b. 0 < length (value b)) b blocks full) (omega arith) h
    parted (b ∷ blocks) s full (suc i) zero d q p h = absurd (omega arith)
    parted (b ∷ blocks) s full (suc i) (suc j) d q p h = parted blocks (sorted_right R (value b) (flat_map value blocks) s) (All-tail (λ b. 0 < length (value b)) b blocks full) i j d (omega arith) (omega arith) h

    parted_by_last : (blocks : List B) → IsInOrder R (flat_map value blocks) → HaveEntries value blocks → IsPartitionedBy last_below blocks
    parted_by_last blocks s full i j d q p h = last_decides blocks i d s (omega arith) ∙ parted blocks s full i j d q p (sym (last_decides blocks j d s p) ∙ h)

    -- after blocks below the key
    parts_past : (blocks : List B) (last whole : List (K × X)) (i : ℕ) → IsPartAt R k whole (flat_map value blocks ++ last) → AllWithin (λ b. is_below b ≡ true) blocks 0 i → i ≤ length blocks → IsPartAt R k whole (rest_of value blocks last i)
    parts_past blocks last whole zero part below p = part
    parts_past [] last whole (suc i) part below p = absurd (omega arith)
    parts_past (b ∷ blocks) last whole (suc i) part below p =
        parts_past blocks last whole i
        (part_past value k (b ∷ blocks) last 0 b whole (omega arith) refl part (below 0 b (omega arith) (omega arith)))
        (λ j d q r. below (suc j) d (omega arith) (omega arith)) (omega arith)

    -- what a search by the blocks' last keys finds
    pub place_found : (blocks : List B) (place : ℕ) → IsInOrder R (flat_map value blocks) → HaveEntries value blocks → place ≤ length blocks → (IsPartitionedBy last_below blocks → IsPartitionPoint (λ b. last_below b ≡ true) (λ b. last_below b ≡ false) blocks place)
        → IsPlaceOf R value k blocks place
    place_found blocks place s full bound found =
        let point = found (parted_by_last blocks s full) in
        record {
          within = bound;
          below = λ j d q p. sym (last_decides blocks j d s (omega arith)) ∙ point.0 j d q p;
          not_below = λ b p is. ap is_below is ∙ sym (last_decides blocks place b s p) ∙ point.1 place b (omega arith) p;
        }

    module _ (blocks : List B) (last whole : List (K × X)) (place : ℕ) (s : IsInOrder R whole) (split : flat_map value blocks ++ last ≡ whole) (found : IsPlaceOf R value k blocks place) where
      past : IsPartAt R k whole (rest_of value blocks last place)
      past = parts_past blocks last whole place (part_whole k whole (flat_map value blocks ++ last) s (sym split)) found.below found.within

      -- the first block that isn't below the key
      pub part_found_at : (b : B) → place < length blocks → b ≡ get_or blocks place b → IsPartAt R k whole (value b)
      part_found_at b p is = part_here value k blocks last place b whole p is past (found.not_below b p is)

      -- no block remains, because all are below the key
      pub part_at_last : length blocks ≤ place → IsPartAt R k whole last
      part_at_last p = subst (IsPartAt R k whole) (rest_last value blocks last place p) past
