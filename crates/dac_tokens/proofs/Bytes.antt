-- Bytes: the reader's tests decide the grammar's classes, `class_of` finds the class of a byte, and `stretch` finds the
-- longest prefix that passes a test.
use Rattle.std.proofs.Common.{◌≡◌, ◌≢◌, inl, inr, ℕ, suc, ◌+◌, ◌<◌, Bool, true, false, ◌||◌, cond, eqb, leb, List, [], ◌∷◌, ◌++◌, length, take, drop, refl, sym, ap, subst, ◌∙◌, arith}
use Rattle.std.specs.Prelude.{All}
use Rattle.std.specs.Bool.{Decides}
use Rattle.std.specs.Char.{is_ascii_digit, is_ascii_lowercase, IsAsciiDigit, IsAsciiLowercase}
use Rattle.std.specs.List.{prefix_len}
use Rattle.std.proofs.lemmas.Bool.{eqb-true, eqb-false, ne_eqb, leb-true, le-leb, cond_both, false_from_ne_true, true≢false}
use Rattle.std.proofs.lemmas.Bool.Decides.{nat_tests, not_from_Decides, Decides-and}
use Rattle.std.proofs.lemmas.List.Elements.{All-nil, All-cons, All-head, All-tail}
use Rattle.std.proofs.lemmas.List.Folds.{length-prefix_len}
use Rattle.std.proofs.lemmas.List.Sums.{take_while-cons}
use Rattle.std.proofs.Math.Seq.{take-append_seam, drop-append_seam}
use Rattle.dac_tokens.specs.declared.token.Class.{Class}
use Rattle.dac_tokens.specs.declared.token.Class.TheVariants as class
use Rattle.dac_tokens.specs.declared.token.Symbol.{Symbol}
use Rattle.dac_tokens.specs.declared.token.Symbol.TheVariants.{OpenList, CloseList, OpenTuple, CloseTuple, Comma, FullStop}
use Rattle.dac_tokens.specs.Scan.{is_blank, class_of, ends_stop, breaks_number, stretch}
use Rattle.dac_tokens.specs.TokenGrammar.{IsBlank, StartsGap, Begins, ContinuesAsNumber, EndsTerm, bytes_of}
use Rattle.dac_tokens.specs.TokenFaults.{IsRefused, IsUnknown}
use Rattle.dac_tokens.specs.laws.NameBytes.{tells_letter}

-- a test returns false if the fact that it decides is false
pub fails : {P : Type 0} (r : Bool) → Decides r P → (P → ⊥) → r ≡ false
fails r tells other = false_from_ne_true r (λ e. other (tells.0 e))

pub tells_blank : (b : ℕ) → Decides (is_blank b) (IsBlank b)
tells_blank b = (leb-true b 32, le-leb b 32)

pub tells_digit : (b : ℕ) → Decides (is_ascii_digit b) (IsAsciiDigit b)
tells_digit b = Decides-and (leb 48 b) (leb b 57) (leb-true 48 b, le-leb 48 b) (leb-true b 57, le-leb b 57)

pub tells_stop : (rest : List ℕ) → Decides (ends_stop rest) (EndsTerm rest)
tells_stop [] = (λ e. inl refl, λ h. refl)
tells_stop (b ∷ bs) = (λ e. inr (grind (arith, nat_tests)), λ h. grind (arith, nat_tests))

pub tells_break : (rest : List ℕ) → (Begins IsAsciiDigit rest → ⊥) → Decides (breaks_number rest) (ContinuesAsNumber rest)
tells_break [] no_digit = (λ e. absurd cc, λ h. absurd h)
tells_break (b ∷ []) no_digit = (λ e. grind (arith, nat_tests), λ h. grind (arith, nat_tests))
tells_break (b ∷ c ∷ bs) no_digit = (λ e. grind (arith, nat_tests), λ h. grind (arith, nat_tests))

abbrev is_refused : ℕ → Bool
is_refused b =
    eqb b 60 || eqb b 35 || eqb b 36 || eqb b 43 || eqb b 126 || eqb b 124 || leb 128 b

tells_refused : (b : ℕ) → Decides (is_refused b) (IsRefused b)
tells_refused b = (λ e. grind (arith, nat_tests), λ h. grind (arith, nat_tests))

-- the class of a byte that passes a test which no byte with a class of its own passes
class_by : (p : ℕ → Bool) (b : ℕ) → p b ≡ true → (p 91 ≡ false) × (p 93 ≡ false) × (p 123 ≡ false) × (p 125 ≡ false) × (p 44 ≡ false) × (p 46 ≡ false) × (p 45 ≡ false) × (p 39 ≡ false) × (p 34 ≡ false) → class_of b ≡ cond (is_ascii_lowercase b) class.Letter (cond (is_ascii_digit b) class.Digit (cond (is_refused b) class.Refused class.Unknown))
class_by p b holds apart = rw (other 91 apart.0, other 93 apart.1, other 123 apart.2, other 125 apart.3, other 44 apart.4, other 46 apart.5, other 45 apart.6, other 39 apart.7, other 34 apart.8) refl
  where
    other : (n : ℕ) → p n ≡ false → eqb b n ≡ false
    other n e = ne_eqb b n (λ is. true≢false (sym holds ∙ ap p is ∙ e))

pub letter_class : (b : ℕ) → IsAsciiLowercase b → class_of b ≡ class.Letter
letter_class b h =
    let holds = (tells_letter b).1 h in
    class_by is_ascii_lowercase b holds (refl, refl, refl, refl, refl, refl, refl, refl, refl) ∙ rw holds refl

pub digit_class : (b : ℕ) → IsAsciiDigit b → class_of b ≡ class.Digit
digit_class b h =
    let holds = (tells_digit b).1 h in
    class_by is_ascii_digit b holds (refl, refl, refl, refl, refl, refl, refl, refl, refl) ∙ rw (fails (is_ascii_lowercase b) (tells_letter b) (λ l. omega arith), holds) refl

pub refused_class : (b : ℕ) → IsRefused b → class_of b ≡ class.Refused
refused_class b h =
    let holds = (tells_refused b).1 h in
    class_by is_refused b holds (refl, refl, refl, refl, refl, refl, refl, refl, refl) ∙ rw (fails (is_ascii_lowercase b) (tells_letter b) (λ l. grind arith), fails (is_ascii_digit b) (tells_digit b) (λ d. grind arith), holds) refl

pub gap_class : (b : ℕ) → StartsGap b → class_of b ≡ class.Unknown
gap_class b h =
    let holds : (leb b 32 || eqb b 37) ≡ true = grind (arith, nat_tests) in
    class_by (λ n. leb n 32 || eqb n 37) b holds (refl, refl, refl, refl, refl, refl, refl, refl, refl) ∙ rw (fails (is_ascii_lowercase b) (tells_letter b) (λ l. grind arith), fails (is_ascii_digit b) (tells_digit b) (λ d. grind arith), fails (is_refused b) (tells_refused b) (λ r. grind arith)) refl

pub unknown_class : (b : ℕ) → IsUnknown b → class_of b ≡ class.Unknown
unknown_class b un = rw (mark 91 OpenList refl, mark 93 CloseList refl, mark 123 OpenTuple refl, mark 125 CloseTuple refl, mark 44 Comma refl, mark 46 FullStop refl, ne_eqb b 45 un.no_minus, ne_eqb b 39 un.no_quote, ne_eqb b 34 un.no_double_quote, fails (is_ascii_lowercase b) (tells_letter b) un.no_letter, fails (is_ascii_digit b) (tells_digit b) un.no_digit, fails (is_refused b) (tells_refused b) un.no_refused) refl
  where
    mark : (n : ℕ) (symbol : Symbol) → n ∷ [] ≡ bytes_of symbol → eqb b n ≡ false
    mark n symbol is = ne_eqb b n (λ e. un.no_mark symbol (ap (λ k. k ∷ []) e ∙ is))

abbrev pub IsOf : Class → ℕ → Type 0
IsOf (class.Bracket FullStop) b = ⊥
IsOf (class.Bracket symbol) b = b ∷ [] ≡ bytes_of symbol
IsOf class.Comma b = b ≡ 44
IsOf class.Dot b = b ≡ 46
IsOf class.Letter b = IsAsciiLowercase b
IsOf class.Digit b = IsAsciiDigit b
IsOf class.Minus b = b ≡ 45
IsOf class.Quote b = b ≡ 39
IsOf class.DoubleQuote b = b ≡ 34
IsOf class.Refused b = IsRefused b
IsOf class.Unknown b = (StartsGap b → ⊥) → IsUnknown b

pub class_is : (b : ℕ) → IsOf (class_of b) b
class_is b =
    alone 91 (class.Bracket OpenList) _ refl (λ n91. alone 93 (class.Bracket CloseList) _ refl (λ n93.
    alone 123 (class.Bracket OpenTuple) _ refl (λ n123. alone 125 (class.Bracket CloseTuple) _ refl (λ n125.
    alone 44 class.Comma _ refl (λ n44. alone 46 class.Dot _ refl (λ n46. alone 45 class.Minus _ refl (λ n45.
    alone 39 class.Quote _ refl (λ n39. alone 34 class.DoubleQuote _ refl (λ n34.
    tested (is_ascii_lowercase b) class.Letter _ (tells_letter b).0 (λ letter.
    tested (is_ascii_digit b) class.Digit _ (tells_digit b).0 (λ digit.
    tested (is_refused b) class.Refused _ (tells_refused b).0 (λ refused.
    λ no_start. record {
      no_gap = no_start;
      no_mark = no_mark n91 n93 n123 n125 n44 n46;
      no_letter = not_from_Decides (is_ascii_lowercase b) (tells_letter b) letter;
      no_digit = not_from_Decides (is_ascii_digit b) (tells_digit b) digit;
      no_minus = n45;
      no_quote = n39;
      no_double_quote = n34;
      no_refused = not_from_Decides (is_refused b) (tells_refused b) refused;
    }))))))))))))
  where
    tested : (test : Bool) (c d : Class) → (test ≡ true → IsOf c b) → (test ≡ false → IsOf d b) → IsOf (cond test c d) b
    tested test c d = cond_both test c d (λ c. IsOf c b)

    alone : (n : ℕ) (c d : Class) → IsOf c n → (b ≢ n → IsOf d b) → IsOf (cond (eqb b n) c d) b
    alone n c d is other = tested (eqb b n) c d (λ e. subst (IsOf c) (sym (eqb-true b n e)) is) (λ e. other (eqb-false b n e))

    no_mark : b ≢ 91 → b ≢ 93 → b ≢ 123 → b ≢ 125 → b ≢ 44 → b ≢ 46 → (symbol : Symbol) → b ∷ [] ≢ bytes_of symbol
    no_mark n91 n93 n123 n125 n44 n46 OpenList same = n91 cc
    no_mark n91 n93 n123 n125 n44 n46 CloseList same = n93 cc
    no_mark n91 n93 n123 n125 n44 n46 OpenTuple same = n123 cc
    no_mark n91 n93 n123 n125 n44 n46 CloseTuple same = n125 cc
    no_mark n91 n93 n123 n125 n44 n46 Comma same = n44 cc
    no_mark n91 n93 n123 n125 n44 n46 FullStop same = n46 cc

pub stretch-first : (p : ℕ → Bool) (b : ℕ) (bs : List ℕ) → p b ≡ true → 0 < stretch p (b ∷ bs)
stretch-first p b bs e = rw (take_while-cons p b bs, e) (omega arith)

pub taken_length : (p : ℕ → Bool) (bs : List ℕ) → length (take (stretch p bs) bs) ≡ stretch p bs
taken_length p bs = ap (λ (n : ℕ). length (take n bs)) (length-prefix_len p bs)

module _ (p : ℕ → Bool) (P : ℕ → Type 0) (tells : (b : ℕ) → Decides (p b) (P b)) where
  passes : (bs : List ℕ) → All P (take (prefix_len p bs) bs)
  passes [] = All-nil P
  passes (b ∷ bs) = by (passes bs) (p b) refl
    where
      by : All P (take (prefix_len p bs) bs) → (c : Bool) → p b ≡ c → All P (take (cond c (1 + prefix_len p bs) 0) (b ∷ bs))
      by more false e = All-nil P
      by more true e =
          let one : 1 + prefix_len p bs ≡ suc (prefix_len p bs) = omega arith in
          rw one (All-cons P b (take (prefix_len p bs) bs) ((tells b).0 e) more)

  -- every byte of the stretch passes
  pub run_passes : (bs : List ℕ) → All P (take (stretch p bs) bs)
  run_passes bs = rw (length-prefix_len p bs) (passes bs)

  stops : (bs : List ℕ) → Begins P (drop (prefix_len p bs) bs) → ⊥
  stops [] h = h
  stops (b ∷ bs) h = by (stops bs) (p b) refl h
    where
      by : (Begins P (drop (prefix_len p bs) bs) → ⊥) → (c : Bool) → p b ≡ c → Begins P (drop (cond c (1 + prefix_len p bs) 0) (b ∷ bs)) → ⊥
      by more false e k = not_from_Decides (p b) (tells b) e k
      by more true e k =
          let one : 1 + prefix_len p bs ≡ suc (prefix_len p bs) = omega arith in
          more (rw one at k)

  -- the byte after the stretch doesn't pass
  pub run_stops : (bs : List ℕ) → Begins P (drop (stretch p bs) bs) → ⊥
  run_stops bs h = stops bs (rw (length-prefix_len p bs) at h)

  prefix_is : (xs ys : List ℕ) → All P xs → (Begins P ys → ⊥) → prefix_len p (xs ++ ys) ≡ length xs
  prefix_is [] [] all ends = refl
  prefix_is [] (b ∷ bs) all ends = rw (fails (p b) (tells b) ends) refl
  prefix_is (x ∷ xs) ys all ends = rw ((tells x).1 (All-head P x xs all)) (omega (arith, prefix_is xs ys (All-tail P x xs all) ends))

  -- bytes that pass, before one that doesn't, are the stretch
  pub run_of : (xs ys : List ℕ) → All P xs → (Begins P ys → ⊥) → stretch p (xs ++ ys) ≡ length xs
  run_of xs ys all ends = length-prefix_len p (xs ++ ys) ∙ prefix_is xs ys all ends

  pub taken_run : (xs ys : List ℕ) → All P xs → (Begins P ys → ⊥) → take (stretch p (xs ++ ys)) (xs ++ ys) ≡ xs
  taken_run xs ys all ends = rw (run_of xs ys all ends) (take-append_seam xs ys)

  pub dropped_run : (xs ys : List ℕ) → All P xs → (Begins P ys → ⊥) → drop (stretch p (xs ++ ys)) (xs ++ ys) ≡ ys
  dropped_run xs ys all ends = rw (run_of xs ys all ends) (drop-append_seam xs ys)
