-- The words of a line are separated by its spaces.
use Rattle.std.proofs.Common.{◌≡◌, ◌≢◌, ℕ, ◌<◌, Bool, false, not, List, [], ◌∷◌, ◌++◌, length, filter, All, ◌==◌, refl, sym, ap, subst, ◌∙◌, arith, inl, inr, append_assoc, append-nil}
use Rattle.dac_script.specs.laws.Common.{slice_split, cases_eq, cond-true, eq-eqb, ne_eqb, not_from_false, All-cons, All-head, All-nil, All-push, All-tail, filter-append, slice_split-cons_yes, slice_split_at, slice_split_none, words_of}
use Rattle.std.proofs.lemmas.List.Elements.{All-weaker}
use Rattle.dac_script.specs.Forms.{AreSpaces, IsWord, EndsWord, HasWords}
use Rattle.dac_script.specs.InWords.{WordsInWords}
use Rattle.dac_script.specs.OwnWords.{OnlySpacesSeparate}
use Rattle.dac_script.specs.laws.Splits.{split_append}

abbrev is_space : ℕ → Bool
is_space b = b == 32

abbrev is_filled : List ℕ → Bool
is_filled word = not (length word == 0)

abbrev HasNoSpace : List ℕ → Type 0
HasNoSpace bytes = All (λ b. b ≢ 32) bytes

-- ---- words that stand in a line are read

-- a leading space adds no word
behind_space : (b : ℕ) (line : List ℕ) → b ≡ 32 → words_of (b ∷ line) ≡ words_of line
behind_space b line space = ap (filter is_filled) (slice_split-cons_yes is_space b line (eq-eqb b 32 space))

behind_spaces : (before line : List ℕ) → AreSpaces before → words_of (before ++ line) ≡ words_of line
behind_spaces [] line spaces = refl
behind_spaces (b ∷ bs) line spaces =
    behind_space b (bs ++ line) (All-head (λ b. b ≡ 32) b bs spaces) ∙ behind_spaces bs line (All-tail (λ b. b ≡ 32) b bs spaces)

no_splits : (word : List ℕ) → HasNoSpace word → All (λ b. is_space b ≡ false) word
no_splits word none = All-weaker (λ b. b ≢ 32) (λ b. is_space b ≡ false) (λ b other. ne_eqb b 32 other) word none

kept : (word : List ℕ) (words : List (List ℕ)) → 0 < length word → filter is_filled (word ∷ words) ≡ word ∷ filter is_filled words
kept word words some = cond-true (is_filled word) (word ∷ filter is_filled words) (filter is_filled words) (not_from_false (length word == 0) (ne_eqb (length word) 0 (λ none. absurd (omega (arith, some, none)))))

-- a leading word is the first one
first_word : (word behind : List ℕ) → IsWord word → EndsWord behind → words_of (word ++ behind) ≡ word ∷ words_of behind
first_word word [] is ends =
    ap words_of (append-nil word) ∙ ap (filter is_filled) (slice_split_none is_space word (no_splits word is.1)) ∙ kept word [] is.0
first_word word (b ∷ bs) is (inl end) = absurd (omega (arith, ap length end))
first_word word (b ∷ bs) is (inr space) =
    ap (filter is_filled) (slice_split_at is_space word b bs (no_splits word is.1) (eq-eqb b 32 space))
    ∙ kept word (slice_split is_space bs) is.0 ∙ ap (λ (words : List (List ℕ)). word ∷ words) (sym (behind_space b bs space))

-- the words that stand in a line are read
words_read : (words : List (List ℕ)) (line : List ℕ) → HasWords words line → words_of line ≡ words
words_read [] line has = ap words_of (sym (append-nil line)) ∙ behind_spaces line [] has
words_read (word ∷ words) line has =
    ap words_of has.2 ∙ behind_spaces has.0 (word ++ has.1) has.3 ∙ first_word word has.1 has.4 has.5
    ∙ ap (λ (rest : List (List ℕ)). word ∷ rest) (words_read words has.1 has.6)

-- ---- words that are read stand in the line

-- a leading space keeps the words
space_more : (words : List (List ℕ)) (b : ℕ) (line : List ℕ) → b ≡ 32 → HasWords words line → HasWords words (b ∷ line)
space_more [] b line space has = All-cons (λ b. b ≡ 32) b line space has
space_more (word ∷ words) b line space has =
    (b ∷ has.0, has.1, ap (λ (l : List ℕ). b ∷ l) has.2, All-cons (λ b. b ≡ 32) b has.0 space has.3, has.4, has.5, has.6)

-- a piece without spaces, before a space or the end
cut : (word behind : List ℕ) → HasNoSpace word → EndsWord behind → HasWords (words_of behind) behind → HasWords (words_of (word ++ behind)) (word ++ behind)
cut [] behind none ends has = has
cut (b ∷ bs) behind none ends has =
    let is : IsWord (b ∷ bs) = (omega arith, none) in
    subst (λ (words : List (List ℕ)). HasWords words (b ∷ bs ++ behind)) (sym (first_word (b ∷ bs) behind is ends)) ([], behind, refl, All-nil (λ b. b ≡ 32), is, ends, has)

-- the words that are read stand in the line; word is the part of the first word scanned so far
stand : (word line : List ℕ) → HasNoSpace word → HasWords (words_of (word ++ line)) (word ++ line)
stand word [] none = cut word [] none (inl refl) (All-nil (λ b. b ≡ 32))
stand word (b ∷ bs) none =
    elim (cases_eq b 32) [
      | inl space ↦
          let more = space_more (words_of bs) b bs space (stand [] bs (All-nil (λ b. b ≢ 32))) in
          cut word (b ∷ bs) none (inr space) (subst (λ (words : List (List ℕ)). HasWords words (b ∷ bs)) (sym (behind_space b bs space)) more)
      | inr other ↦
          subst (λ (l : List ℕ). HasWords (words_of l) l) (append_assoc word (b ∷ []) bs)
          (stand (word ++ b ∷ []) bs (All-push (λ b. b ≢ 32) word b none other))
    ]

pub words_in_words : WordsInWords
words_in_words words line = (
  λ same. subst (λ (ws : List (List ℕ)). HasWords ws line) same (stand [] line (All-nil (λ b. b ≢ 32))),
  words_read words line,
)

-- ---- only spaces separate words

pub only_spaces : OnlySpacesSeparate
only_spaces = record {
  none = refl;
  one = λ line some none. ap (filter is_filled) (slice_split_none is_space line (no_splits line none)) ∙ kept line [] some;
  more = λ before after.
      ap (filter is_filled) (split_append is_space before 32 after refl)
      ∙ filter-append is_filled (slice_split is_space before) (slice_split is_space after);
}
