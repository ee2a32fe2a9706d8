-- Items that are read in ascending order: the facts about all of them, and the invariant of a loop that appends them.
use Rattle.std.specs.Prelude.{◌≡◌, ℕ, zero, suc, Bool, true, false, ◌&&◌, List, [], ◌∷◌, ◌++◌, length, map as list_map, Option, None, Some, Ok, refl}
use Rattle.std.proofs.Common.{sym, ap, subst, ◌∙◌}
use Rattle.std.specs.declared.cmp.Ordering.{Ordering}
use Rattle.std.specs.Ordering.{is_lt}
use Rattle.std.specs.Cmp.{IsTotalOrder}
use Rattle.std.specs.List.{list_all, flat_map, AllByRecursion}
use Rattle.std.proofs.Math.Bool.{and-true}
use Rattle.std.proofs.lemmas.Bool.{and_parts, and_from}
use Rattle.std.proofs.lemmas.List.Folds.{list_all-append}
use Rattle.dac_origins.specs.Keys.{is_below_all, IsRising}
use Rattle.dac_origins.specs.laws.InOrder.{less, below_more}
use Rattle.dac_bytes.specs.Reading.{Rest, Field, ◌>>=◌, items_at, is_above, counted_at}
use Rattle.dac_bytes.specs.Takes.{IsCodec, TakesAs, Again}
use Rattle.dac_bytes.specs.laws.Takes.{TakesAs-both, Again-both, bind_ok, ok_is}
use Rattle.dac_bytes.specs.Items.{Chain}
use Rattle.dac_bytes.specs.laws.Items.{items_takes, items_again}

-- a key is greater than the previous one exactly if it is greater than the keys of all items so far
abbrev pub Reaches : {K X : Type 0} → (K → K → Ordering) → (X → K) → Option K → List X → Type 0
Reaches {K} {X} R key before xs = (k : K) → is_above R before k ≡ list_all (λ (x : X). is_lt (R (key x) k)) xs

-- Q holds of the item, and its key is greater than the previous one
abbrev pub IsNext : {K X : Type 0} → (K → K → Ordering) → (X → K) → (X → Type 0) → Option K → X → Type 0
IsNext R key Q before x = Q x × (is_above R before (key x) ≡ true)

implied : (a b : Bool) → (b ≡ true → a ≡ true) → (a && b) ≡ b
implied true b f = refl
implied false true f = f refl
implied false false f = refl

-- a property of each item that is read holds along all of them
pub items_chain : {S X : Type 0} (item : S → Rest → Field X) (next : X → S) (P : S → X → Type 0) → ((s : S) (r : Rest) (x : X × Rest) → item s r ≡ Ok x → P s x.0)
    → (n : ℕ) (s : S) (r : Rest) (xs : List X × Rest) → items_at item next n s r ≡ Ok xs → (length xs.0 ≡ n) × Chain P next s xs.0
unfolding items_at
items_chain {X = X} item next P each zero s r xs e = subst (λ (y : List X × Rest). (length y.0 ≡ 0) × Chain P next s y.0) (ok_is ([], r) xs e) (refl, tt)
items_chain {X = X} item next P each (suc n) s r xs e =
    let a = bind_ok (item s r) (λ first. items_at item next n (next first.0) first.1 >>= λ others. Ok (first.0 ∷ others.0, others.1)) xs e in
    let b = bind_ok (items_at item next n (next a.0.0) a.0.1) (λ others. Ok (a.0.0 ∷ others.0, others.1)) xs a.2 in
    let rest = items_chain item next P each n (next a.0.0) a.0.1 b.0 b.1 in
    subst (λ (y : List X × Rest). (length y.0 ≡ suc n) × Chain P next s y.0) (ok_is (a.0.0 ∷ b.0.0, b.0.1) xs b.2) (ap suc rest.0, (each s r a.0 a.1, rest.1))

module _ {K X : Type 0} {R : K → K → Ordering} (o : IsTotalOrder R) (key : X → K) where
  above_more : (xs : List X) (k l : K) → list_all (λ (x : X). is_lt (R (key x) k)) xs ≡ true → is_lt (R k l) ≡ true → list_all (λ (x : X). is_lt (R (key x) l)) xs ≡ true
  above_more [] k l h e = refl
  above_more (x ∷ xs) k l h e = and_from _ _ (ap is_lt (o.trans (key x) k l (less _ (and_parts _ _ h).0) (less _ e))) (above_more xs k l (and_parts _ _ h).1 e)

  -- an item with a key greater than the previous one is greater than all, and becomes the previous one
  pub reaches_more : (before : Option K) (xs : List X) (x : X) → Reaches R key before xs → is_above R before (key x) ≡ true → Reaches R key (Some (key x)) (xs ++ x ∷ [])
  reaches_more before xs x h above l =
      let all = sym (h (key x)) ∙ above in
      sym (list_all-append (λ (y : X). is_lt (R (key y) l)) xs (x ∷ [])
      ∙ ap (λ b. list_all (λ (y : X). is_lt (R (key y) l)) xs && b) (and-true (is_lt (R (key x) l)))
      ∙ implied (list_all (λ (y : X). is_lt (R (key y) l)) xs) (is_lt (R (key x) l)) (λ e. above_more xs (key x) l all e))

  module _ (Q : X → Type 0) where
    abbrev next : X → Option K
    next x = Some (key x)

    is_below_from : Option K → List K → Bool
    is_below_from None ks = true
    is_below_from (Some b) ks = is_below_all R b ks

    from : (s : Option K) (k : K) (ks : List K) → is_above R s k ≡ true → is_below_all R k ks ≡ true → is_below_from s (k ∷ ks) ≡ true
    unfolding is_below_from
    from None k ks e h = refl
    from (Some b) k ks e h = and_from _ _ e (below_more o b k ks (less _ e) h)

    below_none : (s : Option K) → is_below_from s [] ≡ true
    unfolding is_below_from
    below_none None = refl
    below_none (Some b) = refl

    pub chain_each : (xs : List X) (s : Option K) → Chain (IsNext R key Q) next s xs → AllByRecursion Q xs
    chain_each [] s c = tt
    chain_each (x ∷ xs) s c = (c.0.0, chain_each xs (next x) c.1)

    ascends_from : (xs : List X) (s : Option K) → Chain (IsNext R key Q) next s xs → (is_below_from s (list_map key xs) ≡ true) × IsRising R (list_map key xs)
    unfolding is_below_from
    ascends_from [] s c = (below_none s, refl)
    ascends_from (x ∷ xs) s c =
        let rest = ascends_from xs (next x) c.1 in
        (from s (key x) (list_map key xs) c.0.1 rest.0, and_from _ _ rest.0 rest.1)

    -- the keys of the items ascend
    pub chain_rises : (xs : List X) (s : Option K) → Chain (IsNext R key Q) next s xs → IsRising R (list_map key xs)
    chain_rises xs s c = (ascends_from xs s c).1

    head_above : (s : Option K) (k : K) (ks : List K) → is_below_from s (k ∷ ks) ≡ true → is_above R s k ≡ true
    unfolding is_below_from
    head_above None k ks h = refl
    head_above (Some b) k ks h = (and_parts _ _ h).0

    chain_from : (xs : List X) (s : Option K) → AllByRecursion Q xs → is_below_from s (list_map key xs) ≡ true → IsRising R (list_map key xs) → Chain (IsNext R key Q) next s xs
    unfolding is_below_from
    chain_from [] s all b rises = tt
    chain_from (x ∷ xs) s all b rises = ((all.0, head_above s (key x) (list_map key xs) b), chain_from xs (next x) all.1 (and_parts _ _ rises).0 (and_parts _ _ rises).1)

    -- items whose keys ascend each have a greater key than the previous one
    pub rising_chain : (xs : List X) → AllByRecursion Q xs → IsRising R (list_map key xs) → Chain (IsNext R key Q) next None xs
    unfolding is_below_from
    rising_chain xs all rises = chain_from xs None all refl rises

    module _ (item : Option K → Rest → Field X) (count : Rest → Field ℕ) (count_text : ℕ → List ℕ) (text : X → List ℕ) (IsCount : ℕ → Type 0) where
      -- a count and its items that are read are spelled by their bytes
      pub counted_takes : TakesAs count count_text IsCount → ((s : Option K) → TakesAs (item s) text (IsNext R key Q s))
          → TakesAs (counted_at count item key) (λ xs. count_text (length xs) ++ flat_map text xs) (λ xs. IsCount (length xs) × AllByRecursion Q xs × IsRising R (list_map key xs))
      unfolding counted_at
      counted_takes takes_count takes =
          TakesAs-both count count_text IsCount (λ n. items_at item next n None) (λ _. flat_map text) (λ n xs. (length xs ≡ n) × Chain (IsNext R key Q) next None xs)
          (λ _ xs. xs) (λ xs. count_text (length xs) ++ flat_map text xs) (λ xs. IsCount (length xs) × AllByRecursion Q xs × IsRising R (list_map key xs))
          takes_count (λ n _. items_takes item next text (IsNext R key Q) takes n None)
          (λ n xs p q. (ap (λ m. count_text m ++ flat_map text xs) (sym q.0), (subst IsCount (sym q.0) p, chain_each xs None q.1, chain_rises xs None q.1)))

      -- a count and its items are read from their spelling
      pub counted_again : (xs : List X) → Again count (count_text (length xs)) (length xs) → ((s : Option K) (x : X) → IsNext R key Q s x → Again (item s) (text x) x)
          → AllByRecursion Q xs → IsRising R (list_map key xs) → Again (counted_at count item key) (count_text (length xs) ++ flat_map text xs) xs
      unfolding counted_at
      counted_again xs again_count again all rises =
          Again-both count (λ n. items_at item next n None) (λ _ xs. xs) (count_text (length xs)) (flat_map text xs) (length xs) xs
          again_count (items_again item next text (IsNext R key Q) again xs None (rising_chain xs all rises))

      -- the facts about items that are read after their count
      pub counted_chain : ((r : Rest) (n : ℕ × Rest) → count r ≡ Ok n → IsCount n.0) → ((s : Option K) (r : Rest) (x : X × Rest) → item s r ≡ Ok x → IsNext R key Q s x.0)
          → (r : Rest) (xs : List X × Rest) → counted_at count item key r ≡ Ok xs → IsCount (length xs.0) × AllByRecursion Q xs.0
      unfolding counted_at
      counted_chain each_count each r xs e =
          let a = bind_ok (count r) (λ n. items_at item next n.0 None n.1 >>= λ ys. Ok (ys.0, ys.1)) xs e in
          let b = bind_ok (items_at item next a.0.0 None a.0.1) (λ ys. Ok (ys.0, ys.1)) xs a.2 in
          let c = items_chain item next (IsNext R key Q) each a.0.0 None a.0.1 b.0 b.1 in
          subst (λ (y : List X × Rest). IsCount (length y.0) × AllByRecursion Q y.0) (ok_is b.0 xs b.2) (subst IsCount (sym c.0) (each_count r a.0 a.1), chain_each b.0.0 None c.1)

      -- a list of items, as a count and its items
      abbrev pub AreCounted : List X → Type 0
      AreCounted xs = IsCount (length xs) × AllByRecursion Q xs × IsRising R (list_map key xs)

      pub counted_codec : IsCodec count count_text IsCount → ((before : Option K) → IsCodec (item before) text (IsNext R key Q before)) → IsCodec (counted_at count item key) (λ xs. count_text (length xs) ++ flat_map text xs) AreCounted
      counted_codec number each = record {
        takes = counted_takes number.takes (λ before. (each before).takes);
        again = λ xs is. counted_again xs (number.again (length xs) is.0) (λ before. (each before).again) is.1 is.2;
      }
