-- Entries that are written in sequence, after their number.
use Rattle.std.proofs.Common.{◌≡◌, ℕ, ◌<◌, List, [], ◌∷◌, ◌++◌, length, sym, ap, ◌∙◌, arith, add-one, append_assoc, append-nil}
use Rattle.dac_part_bytes.proofs.Common.{flat_map}

module _ {E : Type 0} where
  pub one_fewer : (now next : List E) (e : E) → now ≡ e ∷ next → length next < length now
  one_fewer now next e is =
      let long = ap length is ∙ sym (add-one (length next)) in
      omega (arith, long)

  module _ (text : E → List ℕ) where
    pub one_written : (now next : List E) (e : E) (old new whole : List ℕ) → now ≡ e ∷ next → old ++ flat_map text now ≡ whole → new ≡ old ++ text e → new ++ flat_map text next ≡ whole
    one_written now next e old new whole is so_far written =
        ap (λ l. l ++ flat_map text next) written
        ∙ append_assoc old (text e) (flat_map text next)
        ∙ ap (λ (l : List E). old ++ flat_map text l) (sym is)
        ∙ so_far

    pub all_written : (count : ℕ → List ℕ) (writer head written : List ℕ) (n : ℕ) (entries left es : List E) → entries ≡ es → n ≡ length es → head ≡ writer ++ count n → left ≡ [] → written ++ flat_map text left ≡ head ++ flat_map text entries
        → written ≡ writer ++ (count (length es) ++ flat_map text es)
    all_written count writer head written n entries left es same long begun none so_far =
        sym (append-nil written)
        ∙ ap (λ (l : List E). written ++ flat_map text l) (sym none)
        ∙ so_far
        ∙ (λ i. (begun ∙ ap (λ m. writer ++ count m) long) i ++ flat_map text (same i))
        ∙ append_assoc writer (count (length es)) (flat_map text es)
