-- A caller's lines agree with its calls before and after them.
use Rattle.std.proofs.Common.{◌≡◌, ℕ, zero, suc, ◌+◌, ◌<◌, List, [], ◌∷◌, ◌++◌, length, take, drop, get_or, Option, Some, None, refl, sym, ap, ◌∙◌, subst, arith, add-zero, add_assoc}
use Rattle.dac_live.proofs.Common.{option_to_list, take_more, length-take-le, Page, Record, LineAnswer, found, calls_of, found_more, receipt_after, FollowsReceipts, spans_from, Follows}
use Rattle.dac_sites.specs.Call.{Call}
use Rattle.dac_crews.specs.Compared.{before}
use Rattle.dac_crews.specs.Journals.{call_of}
use Rattle.dac_live.specs.Lines.{answer_in}
use Rattle.dac_sites.specs.laws.Calls.{calls_of-mine, calls_of-other}
use Rattle.dac_workers.specs.laws.Found.{listed}
use Rattle.dac_live.specs.Reads.{receipt_by, next_place, asked_in}
use Rattle.dac_live.specs.Following.{IsToldIn}

-- ---- spans
-- the spans before these calls
abbrev pub fronts_from : ℕ → List Call → List (ℕ × ℕ)
fronts_from last [] = []
fronts_from last (c ∷ cs) = (last, c.place) ∷ fronts_from (receipt_by last c.place c.answer) cs

receipt_push : (last : ℕ) (cs : List Call) (c : Call) → receipt_after last (cs ++ c ∷ []) ≡ receipt_by (receipt_after last cs) c.place c.answer
receipt_push last [] c = refl
receipt_push last (d ∷ cs) c = receipt_push (receipt_by last d.place d.answer) cs c

fronts_push : (last : ℕ) (cs : List Call) (c : Call) → fronts_from last (cs ++ c ∷ []) ≡ fronts_from last cs ++ (receipt_after last cs, c.place) ∷ []
fronts_push last [] c = refl
fronts_push last (d ∷ cs) c = ap (λ l. (last, d.place) ∷ l) (fronts_push (receipt_by last d.place d.answer) cs c)

-- the last span is the one after all calls
pub spans_end : (last end : ℕ) (cs : List Call) → spans_from last end cs ≡ fronts_from last cs ++ (receipt_after last cs, end) ∷ []
spans_end last end [] = refl
spans_end last end (c ∷ cs) = ap (λ l. (last, c.place) ∷ l) (spans_end (receipt_by last c.place c.answer) end cs)

-- one more record, of this seat or of another
calls_on : (s i : ℕ) (rs : List Record) (r : Record) → i < length rs → r ≡ get_or rs i r → calls_of s (take (i + 1) rs) ≡ calls_of s (take i rs ++ r ∷ [])
calls_on s i rs r within at = ap (calls_of s) (take_more rs i r within ∙ ap (λ x. take i rs ++ x ∷ []) (sym at))

calls_mine : (s i : ℕ) (rs : List Record) (r : Record) → i < length rs → r ≡ get_or rs i r → r.seat ≡ s → calls_of s (take (i + 1) rs) ≡ calls_of s (take i rs) ++ call_of (i + 1) r.event r.answer ∷ []
calls_mine s i rs r within at mine =
    let n : length (take i rs) ≡ i = length-take-le i rs (omega arith) in
    calls_on s i rs r within at ∙ calls_of-mine s (take i rs) r mine ∙ ap (λ k. calls_of s (take i rs) ++ call_of (k + 1) r.event r.answer ∷ []) n

pub calls_other : (s i : ℕ) (rs : List Record) (r : Record) → i < length rs → r ≡ get_or rs i r → (r.seat ≡ s → ⊥) → calls_of s (take (i + 1) rs) ≡ calls_of s (take i rs)
calls_other s i rs r within at other = calls_on s i rs r within at ∙ calls_of-other s (take i rs) r other

pub last_mine : (s i last : ℕ) (rs : List Record) (r : Record) → i < length rs → r ≡ get_or rs i r → r.seat ≡ s → last ≡ receipt_after 0 (calls_of s (take i rs)) → receipt_by last (i + 1) r.answer ≡ receipt_after 0 (calls_of s (take (i + 1) rs))
last_mine s i last rs r within at mine is =
    ap (λ k. receipt_by k (i + 1) r.answer) is ∙ sym (receipt_push 0 (calls_of s (take i rs)) (call_of (i + 1) r.event r.answer)) ∙ ap (receipt_after 0) (sym (calls_mine s i rs r within at mine))

pub all_mine : (s i last : ℕ) (rs : List Record) (r : Record) (all : List (ℕ × ℕ)) → i < length rs → r ≡ get_or rs i r → r.seat ≡ s → last ≡ receipt_after 0 (calls_of s (take i rs)) → all ≡ fronts_from 0 (calls_of s (take i rs))
    → all ++ (last, i + 1) ∷ [] ≡ fronts_from 0 (calls_of s (take (i + 1) rs))
all_mine s i last rs r all within at mine is so_far =
    (λ j. so_far j ++ (is j, i + 1) ∷ []) ∙ sym (fronts_push 0 (calls_of s (take i rs)) (call_of (i + 1) r.event r.answer)) ∙ ap (fronts_from 0) (sym (calls_mine s i rs r within at mine))

-- the span after this many calls
span_there : (last end k : ℕ) (cs : List Call) → k < length (spans_from last end cs) → get_or (spans_from last end cs) k (0, 0) ≡ (receipt_after last (take k cs), next_place end (drop k cs))
span_there last end zero [] within = refl
span_there last end (suc k) [] within = absurd (omega (arith, within))
span_there last end zero (c ∷ cs) within = refl
span_there last end (suc k) (c ∷ cs) within = let less : k < length (spans_from (receipt_by last c.place c.answer) end cs) = omega (arith, within) in span_there (receipt_by last c.place c.answer) end k cs less

-- ---- lines that agree with spans
before_count : {B : Type 0} (o : Option B) (ys : List B) → length (before o ys) ≡ length (before o []) + length ys
before_count None ys = omega arith
before_count (Some y) ys = omega arith

pub follows_append : (spans : List (ℕ × ℕ)) (a b c : ℕ) (xs ys : List (LineAnswer × Option Page)) → Follows spans a b xs → Follows spans b c ys → Follows spans a c (xs ++ ys)
follows_append spans a b c [] ys first second = subst (λ k. Follows spans k c ys) (sym first) second
follows_append spans a b c (x ∷ xs) ys first second = (first.0, first.1, follows_append spans (a + asked_in (x ∷ [])) b c xs ys first.2 second)

follows_at : (spans : List (ℕ × ℕ)) (from to : ℕ) (front after : List (LineAnswer × Option Page)) (l : LineAnswer × Option Page) → Follows spans from to (front ++ l ∷ after)
    → (from + asked_in front < length spans) × IsToldIn (get_or spans (from + asked_in front) (0, 0)) l.0 l.1
follows_at spans from to [] after l follows =
    subst (λ k. (k < length spans) × IsToldIn (get_or spans k (0, 0)) l.0 l.1) (sym (add-zero from)) (follows.0, follows.1)
follows_at spans from to (b ∷ front) after l follows =
    let count : (from + asked_in (b ∷ [])) + asked_in front ≡ from + asked_in (b ∷ front) = add_assoc from (asked_in (b ∷ [])) (asked_in front) ∙ ap (λ k. from + k) (sym (before_count (answer_in b.0) (found (λ (x : LineAnswer × Option Page). answer_in x.0) front))) in
    subst (λ k. (k < length spans) × IsToldIn (get_or spans k (0, 0)) l.0 l.1) count (follows_at spans (from + asked_in (b ∷ [])) to front after l follows.2)

-- each line agrees with the calls before and after it
pub follows_receipts : (calls : List Call) (end : ℕ) (spans : List (ℕ × ℕ)) (to : ℕ) (ls : List (LineAnswer × Option Page)) → spans ≡ spans_from 0 end calls → Follows spans 0 to ls → FollowsReceipts calls end ls
follows_receipts calls end spans to ls are follows = record {
  each = λ front after answer read is.
      let here = follows_at (spans_from 0 end calls) 0 to front after (answer, read) (subst (λ (x : List (ℕ × ℕ) × List (LineAnswer × Option Page)). Follows x.0 0 to x.1) (λ i. (are i, is i)) follows) in
      let count : 0 + asked_in front ≡ asked_in front = omega arith in
      let there = subst (λ k. (k < length (spans_from 0 end calls)) × IsToldIn (get_or (spans_from 0 end calls) k (0, 0)) answer read) count here in
      subst (λ (s : ℕ × ℕ). IsToldIn s answer read) (span_there 0 end (asked_in front) calls there.0) there.1;
}

-- one more value found, as a list of one or none
listed_as : {B : Type 0} (o : Option B) → listed o ≡ option_to_list o
listed_as None = refl
listed_as (Some y) = refl

pub found_next : {A B : Type 0} (f : A → Option B) (xs : List A) (i : ℕ) (x : A) → i < length xs → x ≡ get_or xs i x → found f (take (i + 1) xs) ≡ found f (take i xs) ++ option_to_list (f x)
found_next f xs i x within at = found_more f xs i x (f x) within at refl ∙ ap (λ l. found f (take i xs) ++ l) (listed_as (f x))
