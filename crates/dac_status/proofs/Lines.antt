-- Concatenated texts.
use Rattle.std.proofs.Common.{◌≡◌, ℕ, ◌+◌, ◌<◌, ◌≤◌, zero, suc, List, [], ◌∷◌, ◌++◌, map, refl, sym, ap, ap₂, ◌∙◌, arith, append_assoc, append-nil}
use Rattle.dac_status.proofs.Common.{range_with_len, map-range_with_len_more}
use Rattle.std.specs.List.{flat_map}
use Rattle.std.proofs.lemmas.Grind.{flat_map-append}

module _ {X : Type 0} (make : ℕ → X) (f : X → List ℕ) where
  -- the texts of the first n
  abbrev pub texts : ℕ → List ℕ
  texts n = flat_map f (map make (range_with_len 0 n))

  texts-more : (n : ℕ) → texts (n + 1) ≡ texts n ++ f (make n)
  texts-more n =
      ap (flat_map f) (map-range_with_len_more make 0 n n (omega arith))
      ∙ flat_map-append f (map make (range_with_len 0 n)) (make n ∷ [])
      ∙ ap (λ t. texts n ++ t) (append-nil (f (make n)))

  pub put_more : (n : ℕ) (start text : List ℕ) → text ≡ start ++ texts n → text ++ f (make n) ≡ start ++ texts (n + 1)
  put_more n start text is = ap (λ t. t ++ f (make n)) is ∙ append_assoc start (texts n) (f (make n)) ∙ ap (λ t. start ++ t) (sym (texts-more n))

  -- texts from some place on are empty
  pub texts_end : (count n : ℕ) → ((m : ℕ) → count ≤ m → m < count + n → f (make m) ≡ []) → texts (count + n) ≡ texts count
  texts_end count zero none = ap texts (omega arith)
  texts_end count (suc n) none =
      let more : count + suc n ≡ count + n + 1 = omega arith in
      ap texts more
      ∙ texts-more (count + n)
      ∙ ap₂ (λ a b. a ++ b) (texts_end count n (λ m le lt. none m le (omega (arith, lt)))) (none (count + n) (omega arith) (omega arith))
      ∙ append-nil (texts count)

module _ {X : Type 0} (make : ℕ → X) (f g : X → List ℕ) where
  pub same_texts : (n most : ℕ) → n ≤ most → ((m : ℕ) → m < most → f (make m) ≡ g (make m)) → texts make f n ≡ texts make g n
  same_texts zero most le same = refl
  same_texts (suc n) most le same =
      let more : suc n ≡ n + 1 = omega arith in
      ap (texts make f) more
      ∙ texts-more make f n
      ∙ ap₂ (λ a b. a ++ b) (same_texts n most (omega (arith, le)) same) (same n (omega (arith, le)))
      ∙ sym (texts-more make g n)
      ∙ ap (texts make g) (sym more)
