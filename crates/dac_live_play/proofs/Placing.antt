-- Concatenated texts of two lists, place by place.
use Rattle.std.proofs.Common.{◌≡◌, ℕ, ◌+◌, ◌<◌, ◌≤◌, List, [], ◌∷◌, ◌++◌, length, get_or, drop, suc, min, refl, sym, ap, ap₂, ◌∙◌, arith, ⊎_elim, append_assoc, append-nil, add-one, drop-cons}
use Rattle.std.proofs.lemmas.Bool.{cases_lt}
use Rattle.std.proofs.lemmas.List.{drop_all}
use Rattle.dac_live_play.specs.Placed.{placed_text}

-- without second items there are no texts
placed_none : {A B : Type 0} (text : ℕ → A → B → List ℕ) (i : ℕ) (xs : List A) → placed_text text i xs [] ≡ []
placed_none text i [] = refl
placed_none text i (x ∷ xs) = refl

module _ {A B : Type 0} (text : ℕ → A → B → List ℕ) (xs : List A) (ys : List B) where
  -- the texts from this place on
  abbrev pub left : ℕ → List ℕ
  left i = placed_text text i (drop i xs) (drop i ys)

  left-more : (i : ℕ) (a : A) (b : B) → i < length xs → i < length ys → a ≡ get_or xs i a → b ≡ get_or ys i b → left i ≡ text i a b ++ left (i + 1)
  left-more i a b in_xs in_ys a_is b_is =
      let from_xs : drop i xs ≡ a ∷ drop (i + 1) xs = rw add-one (drop-cons xs i a in_xs ∙ ap (λ (x : A). x ∷ drop (suc i) xs) (sym a_is)) in
      let from_ys : drop i ys ≡ b ∷ drop (i + 1) ys = rw add-one (drop-cons ys i b in_ys ∙ ap (λ (x : B). x ∷ drop (suc i) ys) (sym b_is)) in
      ap₂ (placed_text text i) from_xs from_ys

  left-end : (i : ℕ) → min (length xs) (length ys) ≤ i → left i ≡ []
  left-end i end =
      ⊎_elim (λ (lt : i < length xs). ap (placed_text text i (drop i xs)) (drop_all i ys (omega arith)) ∙ placed_none text i (drop i xs))
      (λ (le : length xs ≤ i). ap (λ (l : List A). placed_text text i l (drop i ys)) (drop_all i xs le))
      (cases_lt i (length xs))

  -- appending the text of the next place
  pub put_place : (i : ℕ) (a : A) (b : B) (all so_far more : List ℕ) → i < length xs → i < length ys → a ≡ get_or xs i a → b ≡ get_or ys i b → so_far ++ left i ≡ all → more ≡ so_far ++ text i a b → more ++ left (i + 1) ≡ all
  put_place i a b all so_far more in_xs in_ys a_is b_is is more_is =
      ap (λ t. t ++ left (i + 1)) more_is ∙ append_assoc so_far (text i a b) (left (i + 1)) ∙ ap (λ t. so_far ++ t) (sym (left-more i a b in_xs in_ys a_is b_is)) ∙ is

  -- after the last place the text is complete
  pub all_placed : (i : ℕ) (all so_far : List ℕ) → min (length xs) (length ys) ≤ i → so_far ++ left i ≡ all → so_far ≡ all
  all_placed i all so_far end is = sym (append-nil so_far) ∙ ap (λ t. so_far ++ t) (sym (left-end i end)) ∙ is
