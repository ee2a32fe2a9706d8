-- The next entries of a map.
use Rattle.std.proofs.Common.{◌≡◌, ℕ, ◌+◌, ◌-◌, ◌<◌, ◌≤◌, zero, suc, Option, None, Some, List, [], ◌∷◌, ◌++◌, length, refl, sym, ap, subst, ◌∙◌, arith, append_assoc}
use Rattle.std.specs.List.{flat_map, slice_get}
use Rattle.std.specs.Borrow.{Bor}
use Rattle.std.specs.Option.{option_copied}
use Rattle.std.specs.Slice.{IsItemAt}
use Rattle.std.proofs.lemmas.List.Elements.{All-tail}
use Rattle.std.proofs.lemmas.Option.{slice_get-get_or}
use Rattle.dac_sorted.specs.Parts.{HaveEntries}

module _ {E : Type 0} where
  get_left : (xs ys : List E) (i : ℕ) → i < length xs → slice_get (xs ++ ys) i ≡ slice_get xs i
  get_left [] ys i p = absurd (omega arith)
  get_left (x ∷ xs) ys zero p = refl
  get_left (x ∷ xs) ys (suc i) p = get_left xs ys i (omega arith)

  get_right : (xs ys : List E) (i j : ℕ) → i ≡ length xs + j → slice_get (xs ++ ys) i ≡ slice_get ys j
  get_right [] ys i j e = let same : i ≡ j = omega (arith, e) in ap (slice_get ys) same
  get_right (x ∷ xs) ys zero j e = absurd (omega arith)
  get_right (x ∷ xs) ys (suc i) j e = get_right xs ys i j (omega arith)

  -- the entry at an index among the next ones
  pub get_first : (old chunk new : List E) (i : ℕ) → old ≡ chunk ++ new → i < length chunk → slice_get chunk i ≡ slice_get old i
  get_first old chunk new i is p = sym (get_left chunk new i p) ∙ ap (λ l. slice_get l i) (sym is)

  -- after them
  pub get_later : (old chunk new : List E) (i : ℕ) → old ≡ chunk ++ new → length chunk ≤ i → slice_get new (i - length chunk) ≡ slice_get old i
  get_later old chunk new i is p = sym (get_right chunk new i (i - length chunk) (omega arith)) ∙ ap (λ l. slice_get l i) (sym is)

  -- an element that a slice lends
  pub looked_up : (xs : List E) (i : ℕ) (r : Option (Bor E)) → i < length xs → IsItemAt xs i r → option_copied r ≡ slice_get xs i
  looked_up xs i None p at = let past = at.3 in absurd (omega (arith, p, past))
  looked_up xs i (Some b) p at = ap (λ x. Some x) at.1 ∙ sym (slice_get-get_or xs i b.now p)

module _ {E B : Type 0} (value : B → List E) where
  -- the later blocks have entries too
  pub filled_rest : (blocks others : List B) (b : B) → blocks ≡ b ∷ others → HaveEntries value blocks → HaveEntries value others
  filled_rest blocks others b is full = All-tail (λ b. 0 < length (value b)) b others (subst (HaveEntries value) is full)

  pub filled_first : (blocks others : List B) (b : B) → blocks ≡ b ∷ others → HaveEntries value blocks → 0 < length (value b)
  filled_first blocks others b is full = subst (HaveEntries value) is full 0 b (omega arith)

  -- the entries of the first block are the first of all
  pub first_parted : (blocks others : List B) (b : B) (last whole : List E) → blocks ≡ b ∷ others → flat_map value blocks ++ last ≡ whole → whole ≡ value b ++ (flat_map value others ++ last)
  first_parted blocks others b last whole is split =
      sym split
      ∙ ap (λ (l : List B). flat_map value l ++ last) is
      ∙ append_assoc (value b) (flat_map value others) last
