-- An iterator over entries: those of the current block, and the later ones.
use Rattle.std.proofs.Common.{◌≡◌, ◌<◌, ◌≤◌, true, false, List, [], ◌∷◌, ◌++◌, Option, None, Some, MatchOption, length, drop, refl, sym, ap, ◌∙◌, arith, append_assoc, nat_eq, true≢false, true, append-nil}
use Rattle.std.proofs.lemmas.Bool.{eqb-true}
use Rattle.std.specs.Borrow.{Bor}
use Rattle.std.specs.Option.{option_copied}
use Rattle.std.specs.List.{flat_map, slice_get}

module _ {E : Type 0} where
  -- the first entry of the current block is the first of all
  pub first_of : (here rest whole : List E) → here ++ rest ≡ whole → (here ≡ [] → rest ≡ []) → (r : Option (Bor E)) → option_copied r ≡ slice_get here 0
      → MatchOption r (whole ≡ []) (λ e. whole ≡ e.now ∷ drop 1 whole)
  first_of [] rest whole is none None e = sym is ∙ none refl
  first_of [] rest whole is none (Some b) e = cc
  first_of (x ∷ here) rest whole is none None e = cc
  first_of (x ∷ here) rest whole is none (Some b) e = sym is ∙ ap (λ y. y ∷ (here ++ rest)) (same e) ∙ ap (λ l. b.now ∷ drop 1 l) is
    where
      same : Some b.now ≡ Some x → x ≡ b.now
      same e = cc

  pub passed_here : (here rest whole : List E) → here ++ rest ≡ whole → 1 < length here → drop 1 here ++ rest ≡ drop 1 whole
  passed_here [] rest whole is p = absurd (omega arith)
  passed_here (x ∷ here) rest whole is p = ap (drop 1) is

  pub passed_last : (here rest whole : List E) → here ++ rest ≡ whole → (here ≡ [] → rest ≡ []) → length here ≤ 1 → rest ≡ drop 1 whole
  passed_last [] rest whole is none p = none refl ∙ sym (ap (drop 1) (none refl)) ∙ ap (drop 1) is
  passed_last (x ∷ []) rest whole is none p = ap (drop 1) is
  passed_last (x ∷ y ∷ here) rest whole is none p = absurd (omega arith)

  filled : (x : E) (xs : List E) → x ∷ xs ≡ [] → ⊥
  filled x xs e = cc

  -- entries remain in the current block
  pub still_here : (here : List E) (P : Type 0) → 1 < length here → drop 1 here ≡ [] → P
  still_here [] P p e = absurd (omega arith)
  still_here (x ∷ []) P p e = absurd (omega arith)
  still_here (x ∷ y ∷ here) P p e = absurd (filled y here e)

  pub next_some : (old new : List E) (r : Option (Bor E)) → MatchOption r (old ≡ []) (λ e. old ≡ e.now ∷ drop 1 old) → new ≡ drop 1 old
      → MatchOption r ((old ≡ []) × (new ≡ [])) (λ e. old ≡ e.now ∷ new)
  next_some old new None first passed = (first, passed ∙ ap (drop 1) first)
  next_some old new (Some b) first passed = first ∙ ap (λ l. b.now ∷ l) (sym passed)

  pub some_here : (here : List E) (P : Type 0) → nat_eq (length here) 0 ≡ false → here ≡ [] → P
  some_here [] P p e = absurd (true≢false p)
  some_here (x ∷ here) P p e = absurd (filled x here e)

  -- a list of length 0 is empty
  pub nil_of : (here there : List E) → there ≡ here → nat_eq (length here) 0 ≡ true → there ≡ []
  nil_of [] there e p = e
  nil_of (x ∷ here) there e p = let none = eqb-true (length (x ∷ here)) 0 p in absurd (omega (arith, none))

  module _ {B : Type 0} (value : B → List E) where
    -- after an empty block
    pub past_block : (blocks others : List B) (b : B) (last whole : List E) → blocks ≡ b ∷ others → value b ≡ [] → flat_map value blocks ++ last ≡ whole → flat_map value others ++ last ≡ whole
    past_block blocks others b last whole is none same =
        sym (ap (λ l. (l ++ flat_map value others) ++ last) none)
        ∙ sym (ap (λ (l : List B). flat_map value l ++ last) is)
        ∙ same

    -- at a block with entries
    pub at_block : (blocks others : List B) (b : B) (here last whole : List E) → blocks ≡ b ∷ others → here ≡ value b → flat_map value blocks ++ last ≡ whole → here ++ (flat_map value others ++ last) ≡ whole
    at_block blocks others b here last whole is at same =
        ap (λ l. l ++ (flat_map value others ++ last)) at
        ∙ sym (append_assoc (value b) (flat_map value others) last)
        ∙ sym (ap (λ (l : List B). flat_map value l ++ last) is)
        ∙ same

    -- after all blocks
    pub past_blocks : (blocks : List B) (last whole : List E) → length blocks ≡ 0 → flat_map value blocks ++ last ≡ whole → last ++ [] ≡ whole
    past_blocks [] last whole none same = append-nil last ∙ same
    past_blocks (b ∷ blocks) last whole none same = absurd (omega arith)
