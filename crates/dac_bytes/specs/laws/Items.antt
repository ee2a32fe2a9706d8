-- Laws of the definitions in `Items`.
use Rattle.std.specs.Prelude.{◌≡◌, ℕ, zero, suc, ◌+◌, ◌-◌, ◌<◌, ◌≤◌, List, [], ◌∷◌, ◌++◌, length, Result, Ok, Err, refl}
use Rattle.std.specs.List.{flat_map}
use Rattle.std.proofs.Common.{sym, ap, subst, ◌∙◌, arith, append_assoc}
use Rattle.std.proofs.lemmas.List.{append-nil}
use Rattle.std.proofs.lemmas.List.Concat.{flat_map-cons}
use Rattle.dac_bytes.specs.declared.fault.ReadFaultKind.{ReadFaultKind}
use Rattle.dac_bytes.specs.declared.fault.ReadFaultKind.TheVariants.{Short, BadNumber, BadOrder, BadName, NotInList, NotKnown, Trailing, NoMemory}
use Rattle.dac_bytes.specs.declared.fault.ReadFault.{ReadFault}
use Rattle.dac_bytes.specs.Reading.{Rest, Field, Fails, ◌>>=◌, items_at}
use Rattle.dac_bytes.specs.Takes.{TakesAs, Takes, Again}
use Rattle.dac_bytes.specs.laws.Takes.{Takes-none, TakesAs-both, Again-both, ok_is}
use Rattle.dac_bytes.specs.Items.{Chain, with_front}

regroup : {X : Type 0} (front : List X) (x : X) (read : Field (List X)) → with_front front (read >>= λ xs. Ok (x ∷ xs.0, xs.1)) ≡ with_front (front ++ x ∷ []) read
regroup {X = X} front x (Ok y) = ap (λ (xs : List X). Ok (xs, y.1)) (simp append_assoc)
regroup front x (Err e) = refl

-- a fault of one step is the fault of another
pub Fails-on : {A B : Type 0} (kind : ReadFaultKind) (e : ReadFault) (a : Result A ReadFault) (b : Result B ReadFault) → Fails kind e a → (a ≡ Err e → b ≡ Err e) → Fails kind e b
Fails-on NoMemory e a b h on = h
Fails-on Short e a b h on = on h
Fails-on BadNumber e a b h on = on h
Fails-on BadOrder e a b h on = on h
Fails-on BadName e a b h on = on h
Fails-on NotInList e a b h on = on h
Fails-on NotKnown e a b h on = on h
Fails-on Trailing e a b h on = on h

-- a step that allocates nothing fails with its own fault
pub Fails-from : {A : Type 0} (kind : ReadFaultKind) (e : ReadFault) (a : Result A ReadFault) → ¬ (kind ≡ NoMemory) → a ≡ Err e → Fails kind e a
Fails-from NoMemory e a real h = absurd (real refl)
Fails-from Short e a real h = h
Fails-from BadNumber e a real h = h
Fails-from BadOrder e a real h = h
Fails-from BadName e a real h = h
Fails-from NotInList e a real h = h
Fails-from NotKnown e a real h = h
Fails-from Trailing e a real h = h

module _ {S X : Type 0} (item : S → Rest → Field X) (next : X → S) where
  -- ---- a loop

  -- one more item was read
  pub goes_on : (front : List X) (count i : ℕ) (s : S) (r : Rest) (x : X) (end : Rest) (total : Field (List X)) → i < count → item s r ≡ Ok (x, end)
      → with_front front (items_at item next (count - i) s r) ≡ total → with_front (front ++ x ∷ []) (items_at item next (count - (i + 1)) (next x) end) ≡ total
  unfolding items_at
  goes_on front count i s r x end total lt h so_far =
      let k : count - i ≡ suc (count - (i + 1)) = omega arith in
      let one : with_front front (items_at item next (count - i) s r) ≡ with_front (front ++ x ∷ []) (items_at item next (count - (i + 1)) (next x) end) = rw (k, h) (regroup front x (items_at item next (count - (i + 1)) (next x) end)) in
      sym one ∙ so_far

  -- the next item has a fault
  pub ends : (e : ReadFault) (front : List X) (count i : ℕ) (s : S) (r : Rest) (total : Field (List X)) → i < count → Fails e.kind e (item s r)
      → with_front front (items_at item next (count - i) s r) ≡ total → Fails e.kind e total
  unfolding items_at
  ends e front count i s r total lt fails so_far =
      let k : count - i ≡ suc (count - (i + 1)) = omega arith in
      Fails-on e.kind e (item s r) total fails (λ h.
      let one : with_front front (items_at item next (count - i) s r) ≡ Err e = rw (k, h) refl in
      sym so_far ∙ one)

  -- all items were read
  pub is_done : (front : List X) (count i : ℕ) (s : S) (r : Rest) (total : Field (List X)) → count ≤ i → with_front front (items_at item next (count - i) s r) ≡ total → total ≡ Ok (front, r)
  unfolding items_at
  is_done front count i s r total le so_far =
      let k : count - i ≡ 0 = omega arith in
      let one : with_front front (items_at item next (count - i) s r) ≡ Ok (front, r) = rw k (ap (λ (xs : List X). Ok (xs, r)) (append-nil front)) in
      sym so_far ∙ one

  -- ---- the laws

  module _ (text : X → List ℕ) (P : S → X → Type 0) where
    pub items_takes : ((s : S) → TakesAs (item s) text (P s)) → (n : ℕ) (s : S) → TakesAs (items_at item next n s) (flat_map text) (λ xs. (length xs ≡ n) × Chain P next s xs)
    unfolding items_at
    items_takes takes zero s = λ r x fits e.
        subst (λ (x : List X × Rest). Takes r (flat_map text x.0) x.1 × ((length x.0 ≡ 0) × Chain P next s x.0)) (ok_is ([], r) x e) (Takes-none r fits, (refl, tt))
    items_takes takes (suc n) s =
        TakesAs-both (item s) text (P s) (λ x. items_at item next n (next x)) (λ _. flat_map text) (λ x xs. (length xs ≡ n) × Chain P next (next x) xs)
        (λ x xs. x ∷ xs) (flat_map text) (λ xs. (length xs ≡ suc n) × Chain P next s xs)
        (takes s) (λ x _. items_takes takes n (next x)) (λ x xs p q. (sym (flat_map-cons text x xs), (ap suc q.0, (p, q.1))))

    pub items_again : ((s : S) (x : X) → P s x → Again (item s) (text x) x) → (xs : List X) (s : S) → Chain P next s xs → Again (items_at item next (length xs) s) (flat_map text xs) xs
    unfolding items_at
    items_again again [] s c = λ at rest. let none : at ≡ at + 0 = omega arith in ap (λ (n : ℕ). Ok ([], record { at = n; bytes = rest })) none
    items_again again (x ∷ xs) s c =
        subst (λ (t : List ℕ). Again (items_at item next (suc (length xs)) s) t (x ∷ xs)) (sym (flat_map-cons text x xs))
        (Again-both (item s) (λ x. items_at item next (length xs) (next x)) (λ x xs. x ∷ xs) (text x) (flat_map text xs) x xs (again s x c.0) (items_again again xs (next x) c.1))
