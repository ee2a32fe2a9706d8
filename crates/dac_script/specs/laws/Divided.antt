-- An input is divided at its first line `--`.
use Rattle.std.proofs.Common.{◌≡◌, ◌≢◌, ◌⊎◌, ◌==◌, ℕ, Bool, length, arith, List, [], ◌∷◌, ◌++◌, All, codes, refl, sym, ap, subst, ◌∙◌, inl, inr, append_assoc, append-nil}
use Rattle.dac_script.specs.laws.Common.{join_with_byte, take-append_seam, All-cons, All-head, All-nil, All-push, All-tail, join_with_byte-slice_split, slice_split_at, lines_of, divider, with_feeds, IsParted}
use Rattle.std.proofs.lemmas.List.Elements.{All-contains, All-take, Contains-append_right}
use Rattle.dac_script.specs.OwnWords.{EndsLine, IsDividedAtFirst, DividedInWords}
use Rattle.dac_script.specs.laws.Splits.{split_append, parts_uncut, IsUncut}

abbrev is_feed : ℕ → Bool
is_feed b = b == 10

abbrev IsOther : List ℕ → Type 0
IsOther line = line ≢ divider

-- ---- whole lines

-- joined lines before others are whole
join_front : (before : List (List ℕ)) (line : List ℕ) (behind : List (List ℕ)) → join_with_byte 10 (before ++ line ∷ behind) ≡ with_feeds before ++ join_with_byte 10 (line ∷ behind)
join_front [] line behind = refl
join_front (first ∷ []) line behind = sym (append_assoc first (10 ∷ []) (join_with_byte 10 (line ∷ behind)))
join_front (first ∷ second ∷ before) line behind =
    ap (λ rest. first ++ 10 ∷ rest) (join_front (second ∷ before) line behind) ∙ sym (append_assoc first (10 ∷ with_feeds (second ∷ before)) (join_with_byte 10 (line ∷ behind)))

whole_lines : (lines : List (List ℕ)) → EndsLine (with_feeds lines)
whole_lines [] = inl refl
whole_lines (line ∷ lines) = elim (whole_lines lines) [
  | inl none ↦ inr (line, ap (λ r. line ++ 10 ∷ r) none)
  | inr more ↦ inr (line ++ 10 ∷ more.0, ap (λ r. line ++ 10 ∷ r) more.1 ∙ sym (append_assoc line (10 ∷ more.0) (10 ∷ [])))
]

-- the lines of whole lines, after which an empty one begins
lines_of_feeds : (lines : List (List ℕ)) → All (IsUncut is_feed) lines → lines_of (with_feeds lines) ≡ lines ++ [] ∷ []
lines_of_feeds [] uncut = refl
lines_of_feeds (line ∷ lines) uncut =
    slice_split_at is_feed line 10 (with_feeds lines) (All-head (IsUncut is_feed) line lines uncut) refl
    ∙ ap (λ ls. line ∷ ls) (lines_of_feeds lines (All-tail (IsUncut is_feed) line lines uncut))

-- these are the lines of a configuration of whole lines, whatever follows it
record AreLines (config : List ℕ) (before : List (List ℕ)) : Type 0 where
  config_is : config ≡ with_feeds before
  lines : (more : List ℕ) → lines_of (config ++ more) ≡ before ++ lines_of more

feeds_of_lines : (text : List ℕ) → with_feeds (lines_of text) ≡ text ++ 10 ∷ []
feeds_of_lines text =
    sym (append-nil (with_feeds (lines_of text))) ∙ sym (join_front (lines_of text) [] [])
    ∙ ap (join_with_byte 10) (sym (split_append is_feed text 10 [] refl)) ∙ join_with_byte-slice_split 10 (text ++ 10 ∷ [])

lines_before : (config : List ℕ) → EndsLine config → (before : List (List ℕ)) × AreLines config before
lines_before config (inl none) = ([], record { config_is = none; lines = λ more. ap (λ c. lines_of (c ++ more)) none })
lines_before config (inr whole) = (
  lines_of whole.0,
  record {
    config_is = whole.1 ∙ sym (feeds_of_lines whole.0);
    lines = λ more.
        ap (λ c. lines_of (c ++ more)) whole.1 ∙ ap lines_of (append_assoc whole.0 (10 ∷ []) more)
        ∙ split_append is_feed whole.0 10 more refl;
  },
)

-- ---- a parted text is divided at its first line `--`

-- the first of the lines in a list of lines
front_uncut : (before behind : List (List ℕ)) → All (IsUncut is_feed) (before ++ behind) → All (IsUncut is_feed) before
front_uncut before behind all = subst (All (IsUncut is_feed)) (take-append_seam before behind) (All-take (IsUncut is_feed) (length before) (before ++ behind) all)

-- whole lines of which none is `--` contain no line `--`
unmarked : (before : List (List ℕ)) (front back : List ℕ) → All (IsUncut is_feed) before → All IsOther before → with_feeds before ≡ front ++ (codes "--\n" ++ back) → EndsLine front → ⊥
unmarked before front back uncut other same ends =
    let begun = lines_before front ends in
    let lines : before ++ [] ∷ [] ≡ begun.0 ++ divider ∷ lines_of back = sym (lines_of_feeds before uncut) ∙ ap lines_of same ∙ begun.1.lines (codes "--\n" ++ back) in
    All-contains IsOther (begun.0 ++ divider ∷ lines_of back) divider (subst (All IsOther) lines (All-push IsOther before [] other (λ none. absurd (cc none))))
    (Contains-append_right begun.0 (divider ∷ lines_of back) divider (0, omega arith, refl)) refl

-- the text that the divider and the lines after it make
divided_text : (text config script : List ℕ) (behind : List (List ℕ)) → text ≡ config ++ join_with_byte 10 (divider ∷ behind) → script ≡ join_with_byte 10 behind
    → (text ≡ config ++ (codes "--\n" ++ script)) ⊎ ((text ≡ config ++ codes "--") × (script ≡ []))
divided_text text config script [] text_is script_is = inr (text_is, script_is)
divided_text text config script (line ∷ behind) text_is script_is = inl (text_is ∙ ap (λ s. config ++ (codes "--\n" ++ s)) (sym script_is))

divided : (text config script : List ℕ) → IsParted text config script → IsDividedAtFirst text config script
divided text config script parted =
    let uncut = front_uncut parted.before (divider ∷ parted.behind) (subst (All (IsUncut is_feed)) parted.lines (parts_uncut is_feed text)) in
    let text_is : text ≡ config ++ join_with_byte 10 (divider ∷ parted.behind) =
    sym (join_with_byte-slice_split 10 text) ∙ ap (join_with_byte 10) parted.lines ∙ join_front parted.before divider parted.behind
    ∙ ap (λ c. c ++ join_with_byte 10 (divider ∷ parted.behind)) (sym parted.config_is) in
    record {
      text_is = divided_text text config script parted.behind text_is parted.script_is;
      whole = subst EndsLine (sym parted.config_is) (whole_lines parted.before);
      first = λ front back same. unmarked parted.before front back uncut parted.first (sym parted.config_is ∙ same);
    }

-- ---- a text that is divided at its first line `--` is parted

-- none of the lines after these whole ones is a divider
none_marked : (config done : List ℕ) (lines : List (List ℕ)) → ((front back : List ℕ) → config ≡ front ++ (codes "--\n" ++ back) → EndsLine front → ⊥)
    → config ≡ done ++ with_feeds lines → EndsLine done → All IsOther lines
none_marked config done [] none same ends = All-nil IsOther
none_marked config done (line ∷ lines) none same ends =
    All-cons IsOther line lines
    (λ marked. none done (with_feeds lines) (same ∙ ap (λ l. done ++ (l ++ 10 ∷ with_feeds lines)) marked) ends)
    (none_marked config (done ++ (line ++ 10 ∷ [])) lines none
    (same ∙ ap (λ l. done ++ l) (sym (append_assoc line (10 ∷ []) (with_feeds lines))) ∙ sym (append_assoc done (line ++ 10 ∷ []) (with_feeds lines)))
    (inr (done ++ line, sym (append_assoc done line (10 ∷ [])))))

parted_by : (text config script : List ℕ) (before : List (List ℕ)) → AreLines config before → All IsOther before
    → (text ≡ config ++ (codes "--\n" ++ script)) ⊎ ((text ≡ config ++ codes "--") × (script ≡ [])) → IsParted text config script
parted_by text config script before are other text_is = elim text_is [
  | inl more ↦ by (lines_of script) (codes "--\n" ++ script) more refl (sym (join_with_byte-slice_split 10 script))
  | inr last ↦ by [] (codes "--") last.0 refl last.1
]
  where
    by : (behind : List (List ℕ)) (end : List ℕ) → text ≡ config ++ end → lines_of end ≡ divider ∷ behind → script ≡ join_with_byte 10 behind → IsParted text config script
    by behind end text_is end_is script_is = record {
      before = before;
      behind = behind;
      lines = ap lines_of text_is ∙ are.lines end ∙ ap (λ l. before ++ l) end_is;
      first = other;
      config_is = are.config_is;
      script_is = script_is;
    }

parted : (text config script : List ℕ) → IsDividedAtFirst text config script → IsParted text config script
parted text config script at_first =
    let before = lines_before config at_first.whole in
    parted_by text config script before.0 before.1
    (none_marked config [] before.0 at_first.first before.1.config_is (inl refl)) at_first.text_is

pub divided_in_words : DividedInWords
divided_in_words text config script = (divided text config script, parted text config script)
