-- The calls of a seat, record by record.
use Rattle.std.proofs.Common.{◌≡◌, ◌≢◌, ℕ, suc, ◌+◌, ◌<◌, ◌≤◌, List, [], ◌∷◌, ◌++◌, length, take, drop, get_or, min, Bool, true, false, refl, sym, ap, ◌∙◌, inl, inr, arith, append-nil, subst, drop-cons, take_all}
use Rattle.dac_sites.specs.laws.Common.{take_more, Record, calls_of, DifferAt}
use Rattle.std.specs.Prelude.{◌==◌, if◌then◌else◌}
use Rattle.std.proofs.lemmas.List.{take-append-drop, length-take-le}
use Rattle.std.proofs.Math.Seq.{take-length}
use Rattle.dac_journal.specs.declared.record.Call.{Call}
use Rattle.dac_journal.specs.Journals.{call_of, calls_from}

cond_push : (b : Bool) (c : Call) (us vs ws : List Call) → us ≡ vs ++ ws → (if b then c ∷ us else us) ≡ (if b then c ∷ vs else vs) ++ ws
cond_push true c us vs ws e = ap (λ l. c ∷ l) e
cond_push false c us vs ws e = e

pub calls_from-append : (s p : ℕ) (xs ys : List Record) → calls_from s p (xs ++ ys) ≡ calls_from s p xs ++ calls_from s (length xs + p) ys
calls_from-append s p [] ys = let n : p ≡ 0 + p = omega arith in ap (λ k. calls_from s k ys) n
calls_from-append s p (x ∷ xs) ys =
    let n : length xs + suc p ≡ suc (length xs) + p = omega arith in
    cond_push (x.seat == s) (call_of p x.event x.answer) _ _ _ (calls_from-append s (suc p) xs ys ∙ ap (λ k. calls_from s (suc p) xs ++ calls_from s k ys) n)

cond_true : (b : Bool) (c : Call) (us : List Call) → b ≡ true → (if b then c ∷ us else us) ≡ c ∷ us
cond_true b c us e = ap (λ t. if t then c ∷ us else us) e

cond_false : (b : Bool) (c : Call) (us : List Call) → b ≡ false → (if b then c ∷ us else us) ≡ us
cond_false b c us e = ap (λ t. if t then c ∷ us else us) e

-- a record of the seat adds one call
pub calls_of-mine : (s : ℕ) (xs : List Record) (r : Record) → r.seat ≡ s → calls_of s (xs ++ r ∷ []) ≡ calls_of s xs ++ call_of (length xs + 1) r.event r.answer ∷ []
calls_of-mine s xs r e = let t : (r.seat == s) ≡ true = grind arith in calls_from-append s 1 xs (r ∷ []) ∙ ap (λ l. calls_of s xs ++ l) (cond_true (r.seat == s) (call_of (length xs + 1) r.event r.answer) [] t)

-- a record of another seat adds none
pub calls_of-other : (s : ℕ) (xs : List Record) (r : Record) → r.seat ≢ s → calls_of s (xs ++ r ∷ []) ≡ calls_of s xs
calls_of-other s xs r e = let t : (r.seat == s) ≡ false = grind arith in calls_from-append s 1 xs (r ∷ []) ∙ ap (λ l. calls_of s xs ++ l) (cond_false (r.seat == s) (call_of (length xs + 1) r.event r.answer) [] t) ∙ append-nil (calls_of s xs)

front : (p : ℕ) (common xs ys : List Call) → DifferAt p xs ys → DifferAt p (common ++ xs) (common ++ ys)
front p [] xs ys d = d
front p (c ∷ cs) xs ys d = inl (refl, front p cs xs ys d)

differ_as : (p : ℕ) (common xs ys us vs : List Call) → us ≡ common ++ xs → vs ≡ common ++ ys → DifferAt p xs ys → DifferAt p us vs
differ_as p common xs ys us vs e f d = rw (e, f) (front p common xs ys d)

-- the calls of a seat, at a record of this seat
at_mine : (s i : ℕ) (rs : List Record) (d : Record) → i < length rs → (get_or rs i d).seat ≡ s
    → calls_of s rs ≡ calls_of s (take i rs) ++ call_of (i + 1) (get_or rs i d).event (get_or rs i d).answer ∷ calls_from s (suc (i + 1)) (drop (suc i) rs)
at_mine s i rs d within mine =
    let r = get_or rs i d in
    let t : (r.seat == s) ≡ true = grind arith in
    let n : length (take i rs) ≡ i = length-take-le i rs (omega arith) in
    ap (λ l. calls_of s l) (sym (take-append-drop i rs) ∙ ap (λ l. take i rs ++ l) (drop-cons rs i d within))
    ∙ calls_from-append s 1 (take i rs) (r ∷ drop (suc i) rs)
    ∙ ap (λ k. calls_of s (take i rs) ++ calls_from s (k + 1) (r ∷ drop (suc i) rs)) n
    ∙ ap (λ l. calls_of s (take i rs) ++ l) (cond_true (r.seat == s) (call_of (i + 1) r.event r.answer) _ t)

ends_early : (s i next : ℕ) (rs : List Record) (cs : List Call) (d : Record) → i < length rs → (get_or rs i d).seat ≡ s → calls_of s (take i rs) ≡ take next cs → next ≡ length cs → DifferAt (i + 1) (calls_of s rs) cs
ends_early s i next rs cs d within mine same all =
    differ_as (i + 1) (take next cs) (call_of (i + 1) (get_or rs i d).event (get_or rs i d).answer ∷ calls_from s (suc (i + 1)) (drop (suc i) rs)) [] (calls_of s rs) cs
    (at_mine s i rs d within mine ∙ ap (λ l. l ++ call_of (i + 1) (get_or rs i d).event (get_or rs i d).answer ∷ calls_from s (suc (i + 1)) (drop (suc i) rs)) same)
    (sym (ap (λ k. take k cs) all ∙ take-length cs) ∙ sym (append-nil (take next cs))) refl

differs_here : (s i next : ℕ) (rs : List Record) (cs : List Call) (d : Record) (e : Call) → i < length rs → (get_or rs i d).seat ≡ s → calls_of s (take i rs) ≡ take next cs → next < length cs
    → get_or cs next e ≢ call_of (i + 1) (get_or rs i d).event (get_or rs i d).answer → DifferAt (min (i + 1) (get_or cs next e).place) (calls_of s rs) cs
differs_here s i next rs cs d e within mine same more apart =
    differ_as (min (i + 1) (get_or cs next e).place) (take next cs) (call_of (i + 1) (get_or rs i d).event (get_or rs i d).answer ∷ calls_from s (suc (i + 1)) (drop (suc i) rs)) (get_or cs next e ∷ drop (suc next) cs) (calls_of s rs) cs
    (at_mine s i rs d within mine ∙ ap (λ l. l ++ call_of (i + 1) (get_or rs i d).event (get_or rs i d).answer ∷ calls_from s (suc (i + 1)) (drop (suc i) rs)) same)
    (sym (take-append-drop next cs) ∙ ap (λ l. take next cs ++ l) (drop-cons cs next e more))
    (inr ((λ f. apart (sym f)), refl))

left_over : (s next : ℕ) (rs : List Record) (cs : List Call) (e : Call) → calls_of s rs ≡ take next cs → next < length cs → DifferAt (get_or cs next e).place (calls_of s rs) cs
left_over s next rs cs e same more =
    differ_as (get_or cs next e).place (take next cs) [] (get_or cs next e ∷ drop (suc next) cs) (calls_of s rs) cs
    (same ∙ sym (append-nil (take next cs)))
    (sym (take-append-drop next cs) ∙ ap (λ l. take next cs ++ l) (drop-cons cs next e more))
    refl

one_more : (s i next : ℕ) (rs : List Record) (cs : List Call) (d : Record) (e : Call) → i < length rs → (get_or rs i d).seat ≡ s → calls_of s (take i rs) ≡ take next cs → next < length cs
    → get_or cs next e ≡ call_of (i + 1) (get_or rs i d).event (get_or rs i d).answer → calls_of s (take (i + 1) rs) ≡ take (next + 1) cs
one_more s i next rs cs d e within mine same more is =
    let n : length (take i rs) ≡ i = length-take-le i rs (omega arith) in
    ap (λ l. calls_of s l) (take_more rs i d within)
    ∙ calls_of-mine s (take i rs) (get_or rs i d) mine
    ∙ (λ j. same j ++ call_of (n j + 1) (get_or rs i d).event (get_or rs i d).answer ∷ [])
    ∙ ap (λ x. take next cs ++ x ∷ []) (sym is)
    ∙ sym (take_more cs next e more)

one_other : (s i next : ℕ) (rs : List Record) (cs : List Call) (d : Record) → i < length rs → (get_or rs i d).seat ≢ s → calls_of s (take i rs) ≡ take next cs → calls_of s (take (i + 1) rs) ≡ take next cs
one_other s i next rs cs d within apart same = ap (λ l. calls_of s l) (take_more rs i d within) ∙ calls_of-other s (take i rs) (get_or rs i d) apart ∙ same

pub all_same : (s i : ℕ) (rs : List Record) (ts : List Call) → length rs ≤ i → calls_of s (take i rs) ≡ ts → calls_of s rs ≡ ts
all_same s i rs ts all same = ap (λ l. calls_of s l) (sym (take_all i rs all)) ∙ same

-- ---- comparing a record with a call
seat_there : (s i : ℕ) (rs : List Record) (r : Record) → r ≡ get_or rs i r → r.seat ≡ s → (get_or rs i r).seat ≡ s
seat_there s i rs r at mine = ap (λ (y : Record). y.seat) (sym at) ∙ mine

call_there : (i : ℕ) (rs : List Record) (r : Record) → r ≡ get_or rs i r → call_of (i + 1) r.event r.answer ≡ call_of (i + 1) (get_or rs i r).event (get_or rs i r).answer
call_there i rs r at = ap (λ (y : Record). call_of (i + 1) y.event y.answer) at

pub record_left : (s i next : ℕ) (rs : List Record) (cs : List Call) (r : Record) → i < length rs → r ≡ get_or rs i r → r.seat ≡ s → calls_of s (take i rs) ≡ take next cs → next ≡ length cs → DifferAt (i + 1) (calls_of s rs) cs
record_left s i next rs cs r within at mine = ends_early s i next rs cs r within (seat_there s i rs r at mine)

pub call_differs : (s i next : ℕ) (rs : List Record) (cs : List Call) (r : Record) (x : Call) → i < length rs → r ≡ get_or rs i r → r.seat ≡ s → calls_of s (take i rs) ≡ take next cs → next < length cs → x ≡ get_or cs next x
    → x ≢ call_of (i + 1) r.event r.answer → DifferAt (min (i + 1) x.place) (calls_of s rs) cs
call_differs s i next rs cs r x within at mine same more there apart =
    subst (λ (y : Call). DifferAt (min (i + 1) y.place) (calls_of s rs) cs) (sym there)
    (differs_here s i next rs cs r x within (seat_there s i rs r at mine) same more (λ e. apart (there ∙ e ∙ sym (call_there i rs r at))))

pub call_left : (s next : ℕ) (rs : List Record) (cs : List Call) (x : Call) → calls_of s rs ≡ take next cs → next < length cs → x ≡ get_or cs next x → DifferAt x.place (calls_of s rs) cs
call_left s next rs cs x same more there = subst (λ (y : Call). DifferAt y.place (calls_of s rs) cs) (sym there) (left_over s next rs cs x same more)

pub call_same : (s i next : ℕ) (rs : List Record) (cs : List Call) (r : Record) (x : Call) → i < length rs → r ≡ get_or rs i r → r.seat ≡ s → calls_of s (take i rs) ≡ take next cs → next < length cs → x ≡ get_or cs next x
    → x ≡ call_of (i + 1) r.event r.answer → calls_of s (take (i + 1) rs) ≡ take (next + 1) cs
call_same s i next rs cs r x within at mine same more there is = one_more s i next rs cs r x within (seat_there s i rs r at mine) same more (sym there ∙ is ∙ call_there i rs r at)

pub record_passed : (s i next : ℕ) (rs : List Record) (cs : List Call) (r : Record) → i < length rs → r ≡ get_or rs i r → r.seat ≢ s → calls_of s (take i rs) ≡ take next cs → calls_of s (take (i + 1) rs) ≡ take next cs
record_passed s i next rs cs r within at other = one_other s i next rs cs r within (λ e. other (ap (λ (y : Record). y.seat) at ∙ e))
