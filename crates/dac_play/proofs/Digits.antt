-- Hexadecimal digits of bytes, from a table.
use Rattle.std.proofs.Common.{◌≡◌, ◌∙◌, ℕ, ◌+◌, ◌-◌, ◌*◌, ◌/◌, ◌%◌, ◌<◌, ◌≤◌, ◌==◌, Bool, true, ◌&&◌, List, [], ◌∷◌, ◌++◌, length, take, drop, replicate, slice_index, zero, suc, inl, inr, sym, ap, arith, append-nil}
use Rattle.dac_play.proofs.Common.{eqb-true, length-append, take_all, encode_lower, lower_digits}
use Rattle.std.proofs.lemmas.Bool.{and_parts, cases_lt}
use Rattle.std.proofs.lemmas.List.{drop_all, drop-replicate, take-append-drop, take-append-le}
use Rattle.hex.specs.Hex.{encode_with}
use Rattle.hex.proofs.HexLemmas.{length-encode_with}

-- the digits of a byte are at its place in the table
abbrev has_pair : List ℕ → ℕ → Bool
has_pair table byte = (slice_index table (2 * byte) == slice_index lower_digits (byte / 16)) && (slice_index table (2 * byte + 1) == slice_index lower_digits (byte % 16))

-- the table is right for the first n bytes
abbrev pub has_pairs : List ℕ → ℕ → Bool
has_pairs table zero = true
has_pairs table (suc n) = has_pair table n && has_pairs table n

pub record Pair (table : List ℕ) (byte : ℕ) : Type 0 where
  pub high : slice_index table (2 * byte) ≡ slice_index lower_digits (byte / 16)
  pub low : slice_index table (2 * byte + 1) ≡ slice_index lower_digits (byte % 16)

pub pair_at : (table : List ℕ) (n byte : ℕ) → has_pairs table n ≡ true → byte < n → Pair table byte
pair_at table zero byte has lt = absurd (omega arith)
pair_at table (suc n) byte has lt =
    let parts = and_parts (has_pair table n) (has_pairs table n) has in
    elim (cases_lt byte n) [
      | inl below ↦ pair_at table n byte parts.1 below
      | inr top ↦
          let is : byte ≡ n = omega arith in
          let both = and_parts _ _ parts.0 in
          rw is (record { high = eqb-true _ _ both.0; low = eqb-true _ _ both.1 })
    ]

-- after the loop all bytes are written
pub all_written : (bytes line before : List ℕ) (at : ℕ) → length bytes ≤ at → at ≤ length bytes → take (2 * at) line ++ encode_lower (drop at bytes) ≡ encode_lower bytes
    → drop (2 * length bytes) line ≡ drop (2 * length bytes) before → line ≡ encode_lower bytes ++ drop (2 * length bytes) before
unfolding encode_with
all_written bytes line before at over up_to written rest =
    let all : at ≡ length bytes = omega arith in
    let front : take (2 * length bytes) line ≡ encode_lower bytes =
    sym (append-nil (take (2 * length bytes) line)) ∙ sym (ap (λ n. take (2 * n) line ++ []) all) ∙ sym (ap (λ bs. take (2 * at) line ++ encode_lower bs) (drop_all at bytes over)) ∙ written in
    sym (take-append-drop (2 * length bytes) line) ∙ ap (λ front. front ++ drop (2 * length bytes) line) front ∙ ap (λ back. encode_lower bytes ++ back) rest

-- the whole line, which was full of line feeds before
pub line_is : (bytes items new : List ℕ) (len : ℕ) → len ≡ 2 * length bytes + 1 → items ≡ replicate (2 * length bytes + 1) 10 → new ≡ encode_lower bytes ++ drop (2 * length bytes) items
    → take len (new ++ drop (length new) items) ≡ encode_lower bytes ++ 10 ∷ []
line_is bytes items new len is all written =
    let n = length bytes in
    let one : 2 * n + 1 - 2 * n ≡ 1 = omega arith in
    let tail : drop (2 * n) items ≡ 10 ∷ [] = ap (drop (2 * n)) all ∙ drop-replicate (2 * n) (2 * n + 1) 10 ∙ ap (λ k. replicate k 10) one in
    let whole : new ≡ encode_lower bytes ++ 10 ∷ [] = written ∙ ap (λ back. encode_lower bytes ++ back) tail in
    let long : length new ≡ 2 * n + 1 = ap length whole ∙ length-append (encode_lower bytes) (10 ∷ []) ∙ ap (λ k. k + 1) (length-encode_with lower_digits bytes) in
    take-append-le len new (drop (length new) items) (omega (arith, is, long)) ∙ take_all len new (omega (arith, is, long)) ∙ whole
