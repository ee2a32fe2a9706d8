-- Joins of blocks: making them, and keeping them right while deltas come and go.
use Rattle.std.specs.Prelude.{◌≡◌, ℕ, ◌+◌, ◌-◌, ◌*◌, ◌%◌, ◌≤◌, ◌<◌, ◌^◌, List, [], ◌∷◌, ◌++◌, length, fold, take, drop, set, get_or}
use Rattle.std.proofs.Common.{arith, sym, ap, subst, ◌∙◌, zero, suc, refl, true, false, inl, inr, ltb, append_assoc, take-take}
use Rattle.std.proofs.Math.Nat.{pow-le-pow_right}
use Rattle.std.proofs.lemmas.Bool.{ltb-true, ltb-false, cases_eq}
use Rattle.std.proofs.lemmas.List.{take-append-le, take_all, drop_all, drop_at, take-append-drop, get_or_push, get_or_read, get_or-set_same, get_or-set_other, drop-take, drop-drop, get_or_append_left, get_or-drop, length-append, length-set, length-map, length-drop, length-take, map-append, drop-map}
use Rattle.std.proofs.lemmas.Nat.{pow_pos, one_shl}
use Rattle.std.proofs.lemmas.List.Sums.{fold-append}
use Rattle.dac_lattice.specs.Lattices.{IsLattice}
use Rattle.dac_lattice.specs.laws.Joins.{join_assoc}
use Rattle.dac_deltas.proofs.Levels.{next_power}
use Rattle.dac_deltas.specs.Blocks.{IsLongest}
use Rattle.dac_deltas.specs.declared.blocks.TheConstants.{MOST_LEVEL}
use Rattle.dac_deltas.specs.BlockEnds.{deltas_of, join_at, IsJoinOfDeltas, HasJoins, AreJoined, IsNextJoin}

-- if a block fits, so does a shorter one
pub record ItFits (begin level n : ℕ) : Type 0 where
  pub within : begin + 2 ^ level ≤ n
  pub positive : 0 < 2 ^ level
  pub shifted : 1 * 2 ^ level % 2 ^ 64 ≡ 2 ^ level

pub shorter_fits : (begin level most n : ℕ) → level ≤ most → most ≤ MOST_LEVEL → begin + 2 ^ most ≤ n → ItFits begin level n
shorter_fits begin level most n less small fits =
    let lower = pow-le-pow_right {n = 2} (omega arith) {i = level} {j = most} less in
    record { within = omega arith; positive = pow_pos level; shifted = one_shl level 64 (omega arith) }

-- endings are as many as their deltas
pub same_long : {L : Type 0} (es fs : List (L × List L)) → deltas_of es ≡ deltas_of fs → length es ≡ length fs
same_long {L} es fs same = sym (length-map es (λ (x : L × List L). x.0)) ∙ (ap length same ∙ length-map fs (λ (x : L × List L). x.0))

module _ {L : Type 0} (is_value : L → Type 0) (join : L → L → L) where
  -- a delta is the join of itself
  stands_one : (x : L) → is_value x → IsJoinOfDeltas is_value join x (x ∷ [])
  stands_one x v = record { value = v; same = λ y w. refl }

  -- the join of the joins of two neighbouring blocks is that of the deltas of both
  stands_both : {below : L → L → Type 0} → IsLattice is_value below join → (x y : L) (xs ys : List L) → IsJoinOfDeltas is_value join x xs → IsJoinOfDeltas is_value join y ys → IsJoinOfDeltas is_value join (join x y) (xs ++ ys)
  stands_both laws x y xs ys s t = record {
    value = laws.closed x y s.value t.value;
    same = λ z v.
        fold-append join z xs ys
        ∙ (ap (λ j. fold join j ys) (s.same z v)
        ∙ (t.same (join z x) (laws.closed z x v s.value)
        ∙ sym (join_assoc laws z x y v s.value t.value)));
  }

  has_same : (ds ds' : List L) (e e' : L × List L) → ds ≡ ds' → e ≡ e' → HasJoins is_value join ds e → HasJoins is_value join ds' e'
  has_same ds ds' e e' q r h = subst (λ f. HasJoins is_value join ds' f) r (subst (λ xs. HasJoins is_value join xs e) q h)

  -- an ending without joins is right
  alone : (ds : List L) (x : L) → is_value x → HasJoins is_value join (ds ++ x ∷ []) (x, [])
  alone ds x v zero low fits =
      let two = length-append ds (x ∷ []) in
      subst (IsJoinOfDeltas is_value join x) (sym (drop_at ds (x ∷ []) (length (ds ++ x ∷ []) - 1) (omega arith))) (stands_one x v)
  alone ds x v (suc k) low fits = absurd (omega arith)

  -- one more delta
  pub joined_push : (es : List (L × List L)) (x : L) → AreJoined is_value join es → is_value x → AreJoined is_value join (es ++ (x, []) ∷ [])
  joined_push es x h v i d lt =
      let e : L × List L = (x, []) in
      let all = map-append (λ (y : L × List L). y.0) es (e ∷ []) in
      let long = length-append es (e ∷ []) in
      let many = length-map es (λ (y : L × List L). y.0) in
      elim (ltb i (length es)) as (λ b. ltb i (length es) ≡ b → HasJoins is_value join (take (i + 1) (deltas_of (es ++ e ∷ []))) (get_or (es ++ e ∷ []) i d)) [
        | true ↦ λ t.
            let below = ltb-true i (length es) t in
            has_same _ _ _ _ (sym (ap (take (i + 1)) all ∙ take-append-le (i + 1) (deltas_of es) (x ∷ []) (omega arith))) (sym (get_or_append_left es (e ∷ []) d i below)) (h i d below)
        | false ↦ λ t.
            let above = ltb-false i (length es) t in
            let last : length es ≡ i = omega arith in
            let whole = ap length all in
            let two = length-append (deltas_of es) (x ∷ []) in
            has_same _ _ _ _ (sym (take_all (i + 1) (deltas_of (es ++ e ∷ [])) (omega arith) ∙ all)) (sym (get_or_push es e d i last)) (alone (deltas_of es) x v)
      ] refl

  -- an ending stays right if fewer deltas are stored
  has_less : (n : ℕ) (ds : List L) (e : L × List L) → HasJoins is_value join ds e → HasJoins is_value join (drop n ds) e
  has_less n ds e h k low fits =
      let left = length-drop n ds in
      let pos = pow_pos k in
      let to : n + (length (drop n ds) - 2 ^ k) ≡ length ds - 2 ^ k = omega arith in
      subst (IsJoinOfDeltas is_value join (join_at e k)) (sym (drop-drop (length (drop n ds) - 2 ^ k) n ds ∙ ap (λ m. drop m ds) to)) (h k low (omega arith))

  -- dropping the oldest deltas
  pub joined_drop : (n : ℕ) (es : List (L × List L)) → AreJoined is_value join es → AreJoined is_value join (drop n es)
  joined_drop n es h i d lt =
      let left = length-drop n es in
      let same : drop n (take (n + (i + 1)) (deltas_of es)) ≡ take (i + 1) (deltas_of (drop n es)) = drop-take n (i + 1) (deltas_of es) ∙ ap (take (i + 1)) (drop-map (λ (x : L × List L). x.0) n es) in
      let had = has_same _ (take (n + (i + 1)) (deltas_of es)) _ (get_or (drop n es) i d) (ap (λ m. take m (deltas_of es)) (omega arith)) (sym (get_or-drop n es i d)) (h (n + i) d (omega arith)) in
      has_same _ _ _ _ same refl (has_less n _ _ had)

  -- the join made for a block is that of its deltas
  pub block_there : (begin level i : ℕ) (es : List (L × List L)) (e : L × List L) → AreJoined is_value join es → begin + 2 ^ level ≤ length es → begin + 2 ^ level ≡ i + 1 → e ≡ get_or es i e → level ≤ length e.1 → IsJoinOfDeltas is_value join (join_at e level) (take (2 ^ level) (drop begin (deltas_of es)))
  block_there begin level i es e h fits ends is made =
      let ds = take (i + 1) (deltas_of es) in
      let many = length-map es (λ (x : L × List L). x.0) in
      let long = length-take (i + 1) (deltas_of es) in
      let had = subst (λ f. HasJoins is_value join ds f) (sym is) (h i e (omega arith)) level made (omega arith) in
      let begins : length ds - 2 ^ level ≡ begin = omega arith in
      subst (IsJoinOfDeltas is_value join (join_at e level)) (ap (λ n. drop n ds) begins ∙ (ap (λ n. drop begin (take n (deltas_of es))) (sym ends) ∙ drop-take begin (2 ^ level) (deltas_of es))) had

  -- ---- making joins
  -- a block has the deltas of its halves
  two_halves : (b p : ℕ) (ds : List L) → take p (drop b ds) ++ take p (drop (b + p) ds) ≡ drop b (take (b + (p + p)) ds)
  two_halves b p ds =
      ap (λ xs. take p (drop b ds) ++ take p xs) (sym (drop-drop p b ds))
      ∙ (ap (λ xs. xs ++ take p (drop p (drop b ds))) (sym (take-take p (p + p) (drop b ds) (omega arith)))
      ∙ (ap (λ xs. take p (take (p + p) (drop b ds)) ++ xs) (sym (drop-take p p (drop b ds)))
      ∙ (take-append-drop p (take (p + p) (drop b ds)) ∙ sym (drop-take b (p + p) ds))))

  -- the join of two halves is the next join of the second one's ending
  pub doubled_join : {below : L → L → Type 0} → IsLattice is_value below join → (es : List (L × List L)) (i level j : ℕ) (e m : L × List L) (x : L) → AreJoined is_value join es → i < length es → level < MOST_LEVEL → 2 ^ (level + 1) ≤ i + 1 → j ≡ i - 1 * 2 ^ level % 2 ^ 64 → e ≡ get_or es i e → m ≡ get_or es j m → length e.1 ≡ level → level ≤ length m.1 → x ≡ join (join_at m level) (join_at e level) → (f : L × List L) → IsNextJoin is_value join es i level f x
  doubled_join laws es i level j e m x h lt small fits to is middle at made joined f same =
      let ds = deltas_of es in
      let p = 2 ^ level in
      let b = i + 1 - 2 ^ (level + 1) in
      let pos = pow_pos level in
      let twice = next_power level in
      let shifted = one_shl level 64 (omega arith) in
      let whole : b + (p + p) ≡ i + 1 = omega arith in
      let left = block_there b level j es m h (omega arith) (omega arith) middle made in
      let right = block_there (b + p) level i es e h (omega arith) (omega arith) is (omega arith) in
      let both = stands_both laws (join_at m level) (join_at e level) _ _ left right in
      let all = two_halves b p ds ∙ ap (λ n. drop b (take n ds)) whole in
      let one : f ≡ e = get_or_read es i f lt same e ∙ sym is in (
        ap (λ (g : L × List L). length g.1) one ∙ at,
        subst (λ y. IsJoinOfDeltas is_value join y (drop b (take (i + 1) ds))) (sym joined) (subst (IsJoinOfDeltas is_value join (join (join_at m level) (join_at e level))) all both),
      )

  -- an ending with one more join
  grown : (ds : List L) (e : L × List L) (j : L) → HasJoins is_value join ds e → IsJoinOfDeltas is_value join j (drop (length ds - 2 ^ (length e.1 + 1)) ds) → HasJoins is_value join ds (e.0, e.1 ++ j ∷ [])
  grown ds e j h new k low fits =
      let long = length-append e.1 (j ∷ []) in
      elim (ltb k (length e.1 + 1)) as (λ b. ltb k (length e.1 + 1) ≡ b → IsJoinOfDeltas is_value join (join_at (e.0, e.1 ++ j ∷ []) k) (drop (length ds - 2 ^ k) ds)) [
        | true ↦ λ t.
            let below = ltb-true k (length e.1 + 1) t in
            subst (λ x. IsJoinOfDeltas is_value join x (drop (length ds - 2 ^ k) ds)) (sym (get_or_append_left (e.0 ∷ e.1) (j ∷ []) e.0 k (omega arith))) (h k (omega arith) fits)
        | false ↦ λ t.
            let above = ltb-false k (length e.1 + 1) t in
            let last : length e.1 + 1 ≡ k = omega arith in
            let at : length (e.0 ∷ e.1) ≡ k = omega arith in
            subst (λ x. IsJoinOfDeltas is_value join x (drop (length ds - 2 ^ k) ds)) (sym (get_or_push (e.0 ∷ e.1) j e.0 k at)) (subst (λ n. IsJoinOfDeltas is_value join j (drop (length ds - 2 ^ n) ds)) last new)
      ] refl

  deltas_set : (es : List (L × List L)) (i : ℕ) (e : L × List L) (js : List L) → e ≡ get_or es i e → deltas_of (set es i (e.0, js)) ≡ deltas_of es
  deltas_set [] i e js is = refl
  deltas_set (x ∷ es) zero e js is = ap (λ (y : L × List L). y.0 ∷ deltas_of es) is
  deltas_set (x ∷ es) (suc i) e js is = ap (λ l. x.0 ∷ l) (deltas_set es i e js is)

  -- one more join is made
  pub joined_more : (es new : List (L × List L)) (i level : ℕ) (e : L × List L) (j : L) → AreJoined is_value join es → i < length es → e ≡ get_or es i e → IsNextJoin is_value join es i level e j → new ≡ set es i (e.0, e.1 ++ j ∷ []) → AreJoined is_value join new × (deltas_of new ≡ deltas_of es)
  joined_more es new i level e j h lt is next put =
      let y : L × List L = (e.0, e.1 ++ j ∷ []) in
      let same = deltas_set es i e (e.1 ++ j ∷ []) is in
      let made = next is in
      let ds = take (i + 1) (deltas_of es) in
      let many = length-map es (λ (x : L × List L). x.0) in
      let long = length-take (i + 1) (deltas_of es) in
      let whole : i + 1 ≡ length ds = omega arith in
      let of_e = subst (λ f. HasJoins is_value join ds f) (sym is) (h i e lt) in
      let new_one = subst (λ n. IsJoinOfDeltas is_value join j (drop (n - 2 ^ (length e.1 + 1)) ds)) whole (subst (λ n. IsJoinOfDeltas is_value join j (drop (i + 1 - 2 ^ (n + 1)) ds)) (sym made.0) made.1) in
      let all : AreJoined is_value join (set es i y) = λ k d inside.
      elim (cases_eq k i) [
        | inl at ↦ has_same _ _ _ _ (sym (ap (λ n. take (n + 1) (deltas_of (set es i y))) at ∙ ap (take (i + 1)) same)) (sym (ap (λ n. get_or (set es i y) n d) at ∙ get_or-set_same es i y d lt)) (grown ds e j of_e new_one)
        | inr other ↦ has_same _ _ _ _ (sym (ap (take (k + 1)) same)) (sym (get_or-set_other es i k y d other)) (h k d (let l = length-set es i y in omega arith))
      ] in
      (subst (AreJoined is_value join) (sym put) all, ap deltas_of put ∙ same)

  -- one more block is joined
  block_joined : (ds : List L) (n m : ℕ) (joined x : L) → is_value joined → IsJoinOfDeltas is_value join x (take m (drop n ds)) → fold join (join joined x) (drop (n + m) ds) ≡ fold join joined (drop n ds)
  block_joined ds n m joined x v s =
      let rest = drop n ds in
      ap (fold join (join joined x)) (sym (drop-drop m n ds))
      ∙ (ap (λ j. fold join j (drop m rest)) (sym (s.same joined v))
      ∙ (sym (fold-append join joined (take m rest) (drop m rest))
      ∙ ap (fold join joined) (take-append-drop m rest)))

  -- ---- several deltas
  -- the deltas that remain to be added after the stored ones
  pub record AreAdded (old : List (L × List L)) (deltas : List L) (kept : List (L × List L)) (left : List L) : Type 0 where
    pub joined : AreJoined is_value join kept
    pub added : deltas_of kept ++ left ≡ deltas_of old ++ deltas
    pub before : take (length old) kept ≡ old

  -- one more delta is added
  pub added_one : (old kept new : List (L × List L)) (deltas left rest : List L) (d : L) → AreAdded old deltas kept left → left ≡ d ∷ rest → is_value d → new ≡ kept ++ (d, []) ∷ [] → AreAdded old deltas new rest
  added_one old kept new deltas left rest d h next value pushed =
      let was = ap length h.before in
      let cut = length-take (length old) kept in
      record {
        joined = subst (AreJoined is_value join) (sym pushed) (joined_push kept d h.joined value);
        added =
            ap (λ es. deltas_of es ++ rest) pushed
            ∙ (ap (λ ds. ds ++ rest) (map-append (λ (x : L × List L). x.0) kept ((d, []) ∷ []))
            ∙ (append_assoc (deltas_of kept) (d ∷ []) rest
            ∙ (ap (λ r. deltas_of kept ++ r) (sym next) ∙ h.added)));
        before = ap (take (length old)) pushed ∙ (take-append-le (length old) kept ((d, []) ∷ []) (omega arith) ∙ h.before);
      }

  -- ---- intervals
  -- of the deltas from a on, those before the number are joined
  pub record IsJoining (bottom : L) (base a count number : ℕ) (ds : List L) (joined : L) : Type 0 where
    pub from : a ≤ number
    pub to : number ≤ count
    pub value : is_value joined
    pub rest : fold join joined (drop (number - base) ds) ≡ fold join bottom (drop (a - base) ds)

  -- one more block is joined, which is the longest one or a shorter one
  pub joining_one : {below : L → L → Type 0} → IsLattice is_value below join → (bottom : L) (base a count number end most level : ℕ) (ds : List L) (joined x j : L) → base ≤ a → IsLongest number (count - number) most → level ≤ most → number < count → end ≡ number + 1 * 2 ^ level % 2 ^ 64 → IsJoinOfDeltas is_value join x (take (2 ^ level) (drop (number - base) ds)) → IsJoining bottom base a count number ds joined → j ≡ join joined x → IsJoining bottom base a count end ds j
  joining_one laws bottom base a count number end most level ds joined x j low top less before ends s h is =
      let small = top.small in
      let fits = top.fits in
      let lower = pow-le-pow_right {n = 2} (omega arith) {i = level} {j = most} less in
      let shifted = one_shl level 64 (omega arith) in
      let from = h.from in
      let next : end - base ≡ (number - base) + 2 ^ level = omega arith in
      record {
        from = omega arith;
        to = omega arith;
        value = subst is_value (sym is) (laws.closed joined x h.value s.value);
        rest = ap (λ y. fold join y (drop (end - base) ds)) is ∙ (ap (λ n. fold join (join joined x) (drop n ds)) next ∙ (block_joined ds (number - base) (2 ^ level) joined x h.value s ∙ h.rest));
      }

  -- at the end all deltas are joined
  pub joining_all : (bottom : L) (base a count number : ℕ) (ds : List L) (joined : L) → base + length ds ≡ count → count ≤ number → IsJoining bottom base a count number ds joined → joined ≡ fold join bottom (drop (a - base) ds)
  joining_all bottom base a count number ds joined whole done h =
      let to = h.to in
      sym (ap (fold join joined) (drop_all (number - base) ds (omega arith))) ∙ h.rest
