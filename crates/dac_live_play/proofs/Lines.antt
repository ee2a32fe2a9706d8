-- Concatenated texts of nodes.
use Rattle.std.proofs.Common.{◌≡◌, ℕ, ◌+◌, List, [], ◌∷◌, ◌++◌, map, sym, ap, ◌∙◌, arith, append_assoc, append-nil}
use Rattle.dac_live_play.proofs.Common.{flat_map, range_with_len, map-range_with_len_more}
use Rattle.std.proofs.lemmas.Grind.{flat_map-append}
use Rattle.dac_base.specs.declared.NodeId.{NodeId}

abbrev pub numbered : ℕ → NodeId
numbered n = record { 0 = n }

module _ (f : NodeId → List ℕ) where
  -- the texts of the first n nodes
  abbrev pub texts : ℕ → List ℕ
  texts n = flat_map f (map numbered (range_with_len 0 n))

  texts-more : (n : ℕ) → texts (n + 1) ≡ texts n ++ f (numbered n)
  texts-more n =
      ap (flat_map f) (map-range_with_len_more numbered 0 n n (omega arith))
      ∙ flat_map-append f (map numbered (range_with_len 0 n)) (numbered n ∷ [])
      ∙ ap (λ t. texts n ++ t) (append-nil (f (numbered n)))

  -- appending the next node's text
  pub put_more : (n : ℕ) (start text more : List ℕ) → text ≡ start ++ texts n → more ≡ text ++ f (numbered n) → more ≡ start ++ texts (n + 1)
  put_more n start text more is more_is =
      more_is ∙ ap (λ t. t ++ f (numbered n)) is ∙ append_assoc start (texts n) (f (numbered n)) ∙ ap (λ t. start ++ t) (sym (texts-more n))
