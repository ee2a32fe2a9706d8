-- Gaps between tokens: exactly gaps are skipped.
use Rattle.std.proofs.Common.{◌≡◌, ◌⊎◌, inl, inr, ℕ, ◌≤◌, Bool, true, false, not, cond, eqb, List, [], ◌∷◌, ◌++◌, length, refl, sym, ap, subst, ◌∙◌, arith, append_assoc}
use Rattle.std.proofs.lemmas.Bool.{eqb-true, eqb-false, ne_eqb}
use Rattle.std.proofs.lemmas.Bool.Decides.{nat_tests}
use Rattle.std.proofs.lemmas.List.{append-nil}
use Rattle.std.proofs.lemmas.List.Elements.{All-nil, All-cons, All-head, All-tail}
use Rattle.dac_tokens.specs.Scan.{is_blank, after_gap}
use Rattle.dac_tokens.specs.TokenGrammar.{IsBlank, StartsGap, IsLine, IsGap, Nothing, Blank, Comment, IsLastGap, Closed, Open, Begins}
use Rattle.dac_tokens.proofs.Bytes.{tells_blank}

pub length_after_gap : (comment : Bool) (bs : List ℕ) → length (after_gap comment bs) ≤ length bs
length_after_gap comment [] = omega arith
length_after_gap true (b ∷ bs) = omega (arith, length_after_gap (not (eqb b 10)) bs)
length_after_gap false (b ∷ bs) = grind (arith, length_after_gap true bs, length_after_gap false bs)

-- the rest of these bytes after a gap, if any
pub record IsPassed (bytes rest : List ℕ) : Type 0 where
  pub gap : List ℕ
  pub parts : bytes ≡ gap ++ rest
  pub is_gap : IsGap gap
  pub stops : Begins StartsGap rest → ⊥

-- the result of skipping a gap: a rest with no gap before it, or nothing
abbrev Passed : List ℕ → List ℕ → Type 0
Passed bytes rest = IsPassed bytes rest ⊎ ((rest ≡ []) × IsLastGap bytes)

-- the result of skipping a gap, from inside a comment
abbrev PassedInLine : List ℕ → List ℕ → Type 0
PassedInLine bytes rest = ((line more : List ℕ) × (bytes ≡ line ++ 10 ∷ more) × IsLine line × Passed more rest) ⊎ (IsLine bytes × (rest ≡ []))

abbrev PassedFrom : Bool → List ℕ → List ℕ → Type 0
PassedFrom false bytes rest = Passed bytes rest
PassedFrom true bytes rest = PassedInLine bytes rest

behind_blank : (b : ℕ) (bs rest : List ℕ) → IsBlank b → Passed bs rest → Passed (b ∷ bs) rest
behind_blank b bs rest blank (inl p) = inl (record { gap = b ∷ p.gap; parts = ap (λ (xs : List ℕ). b ∷ xs) p.parts; is_gap = Blank b p.gap blank p.is_gap; stops = p.stops })
behind_blank b bs rest blank (inr (none, Closed gap)) = inr (none, Closed (Blank b bs blank gap))
behind_blank b bs rest blank (inr (none, Open gap line parts is_gap is_line)) = inr (none, Open (b ∷ gap) line (ap (λ (xs : List ℕ). b ∷ xs) parts) (Blank b gap blank is_gap) is_line)

behind_comment : (line more bs rest : List ℕ) → bs ≡ line ++ 10 ∷ more → IsLine line → Passed more rest → Passed (37 ∷ bs) rest
behind_comment line more bs rest parts is_line (inl p) = inl (record {
  gap = 37 ∷ (line ++ 10 ∷ p.gap);
  parts = ap (λ (xs : List ℕ). 37 ∷ xs) (parts ∙ ap (λ (xs : List ℕ). line ++ 10 ∷ xs) p.parts ∙ sym (append_assoc line (10 ∷ p.gap) rest));
  is_gap = Comment line p.gap is_line p.is_gap;
  stops = p.stops;
})
behind_comment line more bs rest parts is_line (inr (none, Closed gap)) = inr (none, Closed (subst (λ (xs : List ℕ). IsGap (37 ∷ xs)) (sym parts) (Comment line more is_line gap)))
behind_comment line more bs rest parts is_line (inr (none, Open gap last inner is_gap is_last)) = inr (none, Open (37 ∷ (line ++ 10 ∷ gap)) last (ap (λ (xs : List ℕ). 37 ∷ xs) (parts ∙ ap (λ (xs : List ℕ). line ++ 10 ∷ xs) inner ∙ sym (append_assoc line (10 ∷ gap) (37 ∷ last)))) (Comment line gap is_line is_gap) is_last)

behind_percent : (bs rest : List ℕ) → PassedInLine bs rest → Passed (37 ∷ bs) rest
behind_percent bs rest (inl (line, more, parts, is_line, passed)) = behind_comment line more bs rest parts is_line passed
behind_percent bs rest (inr (is_line, none)) = inr (none, Open [] bs refl Nothing is_line)

in_line : (b : ℕ) (bs : List ℕ) (c : Bool) → eqb b 10 ≡ c → Passed bs (after_gap false bs) → PassedInLine bs (after_gap true bs) → PassedInLine (b ∷ bs) (after_gap (not c) bs)
in_line b bs true e passed _ = inl ([], bs, ap (λ (k : ℕ). k ∷ bs) (eqb-true b 10 e), All-nil (λ b. b ≡ 10 → ⊥), passed)
in_line b bs false e _ (inl (line, more, parts, is_line, passed)) = inl (b ∷ line, more, ap (λ (xs : List ℕ). b ∷ xs) parts, All-cons (λ b. b ≡ 10 → ⊥) b line (eqb-false b 10 e) is_line, passed)
in_line b bs false e _ (inr (is_line, none)) = inr (All-cons (λ b. b ≡ 10 → ⊥) b bs (eqb-false b 10 e) is_line, none)

between_tokens : (b : ℕ) (bs : List ℕ) (c d : Bool) → eqb b 37 ≡ c → is_blank b ≡ d → Passed bs (after_gap false bs) → PassedInLine bs (after_gap true bs) → Passed (b ∷ bs) (cond c (after_gap true bs) (cond d (after_gap false bs) (b ∷ bs)))
between_tokens b bs true d e f _ in_line = let is : b ≡ 37 = eqb-true b 37 e in rw is (behind_percent bs (after_gap true bs) in_line)
between_tokens b bs false true e f passed _ = behind_blank b bs (after_gap false bs) ((tells_blank b).0 f) passed
between_tokens b bs false false e f _ _ = inl (record { gap = []; parts = refl; is_gap = Nothing; stops = λ h. grind (arith, nat_tests) })

passed_from : (comment : Bool) (bs : List ℕ) → PassedFrom comment bs (after_gap comment bs)
passed_from false [] = inr (refl, Closed Nothing)
passed_from true [] = inr (All-nil (λ b. b ≡ 10 → ⊥), refl)
passed_from true (b ∷ bs) = in_line b bs (eqb b 10) refl (passed_from false bs) (passed_from true bs)
passed_from false (b ∷ bs) = between_tokens b bs (eqb b 37) (is_blank b) refl refl (passed_from false bs) (passed_from true bs)

-- if nothing remains, the bytes were one last gap
pub last_gap : (bytes : List ℕ) → after_gap false bytes ≡ [] → IsLastGap bytes
last_gap bytes e = by (passed_from false bytes)
  where
    by : Passed bytes (after_gap false bytes) → IsLastGap bytes
    by (inl p) = Closed (subst IsGap (sym (p.parts ∙ ap (λ (xs : List ℕ). p.gap ++ xs) e ∙ append-nil p.gap)) p.is_gap)
    by (inr (none, last)) = last

-- the rest follows a gap
pub gap_before : (bytes : List ℕ) (b : ℕ) (bs : List ℕ) → after_gap false bytes ≡ b ∷ bs → IsPassed bytes (b ∷ bs)
gap_before bytes b bs e = by (passed_from false bytes)
  where
    by : Passed bytes (after_gap false bytes) → IsPassed bytes (b ∷ bs)
    by (inl p) = subst (IsPassed bytes) e p
    by (inr (none, last)) = absurd cc

line_read : (line more : List ℕ) → IsLine line → after_gap true (line ++ 10 ∷ more) ≡ after_gap false more
line_read [] more h = refl
line_read (b ∷ line) more h = ap (λ (c : Bool). after_gap (not c) (line ++ 10 ∷ more)) (ne_eqb b 10 (All-head (λ b. b ≡ 10 → ⊥) b line h)) ∙ line_read line more (All-tail (λ b. b ≡ 10 → ⊥) b line h)

line_ends : (line : List ℕ) → IsLine line → after_gap true line ≡ []
line_ends [] h = refl
line_ends (b ∷ line) h = rw (ne_eqb b 10 (All-head (λ b. b ≡ 10 → ⊥) b line h)) (line_ends line (All-tail (λ b. b ≡ 10 → ⊥) b line h))

blank_read : (b : ℕ) (bs : List ℕ) → IsBlank b → after_gap false (b ∷ bs) ≡ after_gap false bs
blank_read b bs blank =
    let no_percent : eqb b 37 ≡ false = grind (arith, nat_tests) in
    rw (no_percent, (tells_blank b).1 blank) refl

gap_passed : (gap rest : List ℕ) → IsGap gap → after_gap false (gap ++ rest) ≡ after_gap false rest
gap_passed _ rest Nothing = refl
gap_passed _ rest (Blank b more blank gap) = blank_read b (more ++ rest) blank ∙ gap_passed more rest gap
gap_passed _ rest (Comment line more is_line gap) = ap (after_gap true) (append_assoc line (10 ∷ more) rest) ∙ line_read line (more ++ rest) is_line ∙ gap_passed more rest gap

no_gap : (rest : List ℕ) → (Begins StartsGap rest → ⊥) → after_gap false rest ≡ rest
no_gap [] stops = refl
no_gap (b ∷ bs) stops =
    let no_percent : eqb b 37 ≡ false = grind (arith, nat_tests) in
    let no_blank : is_blank b ≡ false = grind (arith, nat_tests) in
    rw (no_percent, no_blank) refl

-- a gap is skipped, if no gap begins after it
pub gap_read : (gap rest : List ℕ) → IsGap gap → (Begins StartsGap rest → ⊥) → after_gap false (gap ++ rest) ≡ rest
gap_read gap rest is_gap stops = gap_passed gap rest is_gap ∙ no_gap rest stops

-- a last gap is skipped, and nothing remains
pub last_read : (bytes : List ℕ) → IsLastGap bytes → after_gap false bytes ≡ []
last_read bytes (Closed gap) = ap (after_gap false) (sym (append-nil bytes)) ∙ gap_passed bytes [] gap
last_read bytes (Open gap line parts is_gap is_line) = ap (after_gap false) parts ∙ gap_passed gap (37 ∷ line) is_gap ∙ line_ends line is_line
