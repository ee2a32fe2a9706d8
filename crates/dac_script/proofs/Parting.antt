-- Searching for the line that splits an input.
use Rattle.std.proofs.Common.{◌≡◌, ℕ, ◌+◌, ◌-◌, ◌<◌, ◌≤◌, false, List, [], ◌∷◌, ◌++◌, length, take, drop, get_or, eqb, refl, sym, ap, subst, ◌∙◌, arith, append_assoc, length-append}
use Rattle.dac_script.specs.laws.Common.{IfNone, Bor, join_with_byte, eqb-true, take-append_seam, take_all, length-drop, All-push, join_with_byte-slice_split, slice_split_none, lines_of, divider, with_feeds, IsParted}
use Rattle.std.specs.Prelude.{All, ◌≢◌, Option, Some, None, IfSome, unwrap_or}
use Rattle.std.proofs.lemmas.List.{drop-drop}
use Rattle.std.proofs.lemmas.List.Sums.{split_at_first, passes_at_first, fails_before_first}
use Rattle.std.proofs.lemmas.List.Elements.{All-from_get_or}
use Rattle.std.proofs.lemmas.List.Splits.{slice_split_first}
use Rattle.dac_script.specs.Input.{line_len}

-- the loop's invariant: whole lines without a divider, then the rest
pub record IsFront (text rest : List ℕ) : Type 0 where
  pub before : List (List ℕ)
  pub lines : lines_of text ≡ before ++ lines_of rest
  pub first : All (λ line. line ≢ divider) before
  pub text_is : text ≡ with_feeds before ++ rest

with_feeds_push : (lines : List (List ℕ)) (line : List ℕ) → with_feeds (lines ++ line ∷ []) ≡ with_feeds lines ++ (line ++ 10 ∷ [])
with_feeds_push [] line = refl
with_feeds_push (l ∷ ls) line = ap (λ x. l ++ 10 ∷ x) (with_feeds_push ls line) ∙ sym (append_assoc l (10 ∷ with_feeds ls) (line ++ 10 ∷ []))

pub front_more : (text rest line behind : List ℕ) → rest ≡ line ++ 10 ∷ behind → lines_of rest ≡ line ∷ lines_of behind → line ≢ divider → IsFront text rest → IsFront text behind
front_more text rest line behind whole more unmarked front = record {
  before = front.before ++ line ∷ [];
  lines = front.lines ∙ ap (λ l. front.before ++ l) more ∙ sym (append_assoc front.before (line ∷ []) (lines_of behind));
  first = All-push (λ line. line ≢ divider) _ _ front.first unmarked;
  text_is = front.text_is ∙ ap (λ l. with_feeds front.before ++ l) (whole ∙ sym (append_assoc line (10 ∷ []) behind)) ∙ sym (append_assoc (with_feeds front.before) (line ++ 10 ∷ []) behind) ∙ ap (λ l. l ++ behind) (sym (with_feeds_push front.before line));
}

-- the invariant's lines end where the rest begins
front_take : (text rest : List ℕ) (front : IsFront text rest) → take (length text - length rest) text ≡ with_feeds front.before
front_take text rest front =
    let len : length text - length rest ≡ length (with_feeds front.before) = omega (arith, ap length front.text_is, length-append (with_feeds front.before) rest) in
    ap (λ n. take n text) len ∙ ap (take (length (with_feeds front.before))) front.text_is ∙ take-append_seam (with_feeds front.before) rest

parted_at : (text rest config script : List ℕ) (behind : List (List ℕ)) → lines_of rest ≡ divider ∷ behind → script ≡ join_with_byte 10 behind → config ≡ take (length text - length rest) text → IsFront text rest → IsParted text config script
parted_at text rest config script behind more is_script is_config front = record {
  before = front.before;
  behind = behind;
  lines = front.lines ∙ ap (λ l. front.before ++ l) more;
  first = front.first;
  config_is = is_config ∙ front_take text rest front;
  script_is = is_script;
}

pub unparted : (text rest line : List ℕ) → lines_of rest ≡ line ∷ [] → line ≢ divider → IsFront text rest → All (λ line. line ≢ divider) (lines_of text)
unparted text rest line last unmarked front = subst (All (λ l. l ≢ divider)) (sym (front.lines ∙ ap (λ l. front.before ++ l) last)) (All-push (λ line. line ≢ divider) _ _ front.first unmarked)

pub first_more : (text : List ℕ) (n : ℕ) → n ≡ line_len text → n < length text → lines_of text ≡ take n text ∷ lines_of (drop (n + 1) text)
first_more text n e lt = rw e (slice_split_first (λ b. eqb b 10) text 0 (omega (arith, e)))

pub first_whole : (text : List ℕ) (n : ℕ) → n ≡ line_len text → n < length text → text ≡ take n text ++ 10 ∷ drop (n + 1) text
first_whole text n e lt =
    let within : line_len text < length text = omega (arith, e) in
    let feed : get_or text (line_len text) 0 ≡ 10 = eqb-true _ _ (passes_at_first (λ b. eqb b 10) text 0 within) in
    rw e (split_at_first (λ b. eqb b 10) text 0 within ∙ ap (λ b. take (line_len text) text ++ b ∷ drop (line_len text + 1) text) feed)

pub first_last : (text : List ℕ) (n : ℕ) → n ≡ line_len text → length text ≤ n → lines_of text ≡ take n text ∷ []
first_last text n e le =
    slice_split_none (λ b. eqb b 10) text (All-from_get_or (λ x. eqb x 10 ≡ false) text 0 (λ i lt. fails_before_first (λ b. eqb b 10) text i 0 (omega (arith, e))))
    ∙ ap (λ l. l ∷ []) (sym (take_all n text le))

-- the rest after one more byte
pub behind_of : (text back : List ℕ) (n : ℕ) → back ≡ drop n text → take (length back - 1) (drop 1 back) ≡ drop (n + 1) text
behind_of text back n e = take_all (length back - 1) (drop 1 back) (omega (arith, length-drop 1 back)) ∙ ap (drop 1) e ∙ drop-drop 1 n text

-- at the divider: the parts are the text before the rest and the text after the line
pub parted_here : (text rest config line : List ℕ) (behind : Option (Bor (List ℕ))) (script none : Bor (List ℕ)) → IfNone behind (lines_of rest ≡ line ∷ []) → IfSome behind (λ b. lines_of rest ≡ line ∷ lines_of b.now)
    → line ≡ divider → config ≡ take (length text - length rest) text → script ≡ unwrap_or behind none → none.now ≡ [] → IsFront text rest → IsParted text config script.now
parted_here text rest config line None script none last more marked is_config is_script empty front =
    parted_at text rest config script.now [] (last ∙ ap (λ l. l ∷ []) marked) (ap (λ (b : Bor (List ℕ)). b.now) is_script ∙ empty) is_config front
parted_here text rest config line (Some behind) script none last more marked is_config is_script empty front =
    parted_at text rest config script.now (lines_of behind.now) (more ∙ ap (λ l. l ∷ lines_of behind.now) marked)
    (ap (λ (b : Bor (List ℕ)). b.now) is_script ∙ sym (join_with_byte-slice_split 10 behind.now)) is_config front
