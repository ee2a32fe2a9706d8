-- Journals are split node by node, and consist of phases, one after another.
use Rattle.std.proofs.Common.{◌≡◌, ℕ, zero, suc, ◌+◌, ◌<◌, ◌≤◌, All, List, [], ◌∷◌, ◌++◌, length, take, take_all, drop, get_or, map, Bor, refl, sym, ap, ◌∙◌, subst, arith}
use Rattle.dac_phases.specs.laws.Common.{take_more, map_push, Record, JournalValue, AreParted, PhaseHolds, ArePhased, part_at}
use Rattle.std.proofs.lemmas.List.{drop_more, drop_all}
use Rattle.std.proofs.lemmas.List.Elements.{All-append, All-cons, All-nil}
use Rattle.dac_crews.specs.declared.phases.Phase.{Phase}

-- ---- borrowed records
abbrev now : Bor (List Record) → List Record
now r = r.now

-- the records of a node among borrowed ones
pub lent_at : (lent : List (Bor (List Record))) (i : ℕ) (x : Bor (List Record)) → i < length lent → x ≡ get_or lent i x → part_at (map (λ (r : Bor (List Record)). r.now) lent) i ≡ x.now
lent_at [] i x within at = absurd (omega (arith, within))
lent_at (y ∷ lent) zero x within at = ap now (sym at)
lent_at (y ∷ lent) (suc i) x within at = let less : i < length lent = omega (arith, within) in lent_at lent i x less at

pub lent_length : (lent : List (Bor (List Record))) → length (map (λ (r : Bor (List Record)). r.now) lent) ≡ length lent
lent_length [] = refl
lent_length (x ∷ lent) = ap suc (lent_length lent)

-- ---- one more node
parted_push : (js ps rs : List (List Record)) (j p r : List Record) → AreParted js ps rs → j ≡ p ++ r → AreParted (js ++ j ∷ []) (ps ++ p ∷ []) (rs ++ r ∷ [])
parted_push [] [] [] j p r all is = (is, tt)
parted_push [] [] (z ∷ rs) j p r all is = absurd all
parted_push [] (y ∷ ps) [] j p r all is = absurd all
parted_push [] (y ∷ ps) (z ∷ rs) j p r all is = absurd all
parted_push (x ∷ js) [] [] j p r all is = absurd all
parted_push (x ∷ js) [] (z ∷ rs) j p r all is = absurd all
parted_push (x ∷ js) (y ∷ ps) [] j p r all is = absurd all
parted_push (x ∷ js) (y ∷ ps) (z ∷ rs) j p r all is = (all.0, parted_push js ps rs j p r all.1 is)

pub parted_more : (js ps rs : List (Bor (List Record))) (i : ℕ) (j p r : Bor (List Record)) → i < length js → j ≡ get_or js i j → j.now ≡ p.now ++ r.now
    → AreParted (map (λ (x : Bor (List Record)). x.now) (take i js)) (map (λ (x : Bor (List Record)). x.now) ps) (map (λ (x : Bor (List Record)). x.now) rs)
    → AreParted (map (λ (x : Bor (List Record)). x.now) (take (i + 1) js)) (map (λ (x : Bor (List Record)). x.now) (ps ++ p ∷ [])) (map (λ (x : Bor (List Record)). x.now) (rs ++ r ∷ []))
parted_more js ps rs i j p r within at is all =
    let first : map now (take (i + 1) js) ≡ map now (take i js) ++ j.now ∷ [] = ap (map now) (take_more js i j within) ∙ map_push now (take i js) (get_or js i j) ∙ ap (λ (x : Bor (List Record)). map now (take i js) ++ x.now ∷ []) (sym at) in
    let more = parted_push (map now (take i js)) (map now ps) (map now rs) j.now p.now r.now all is in
    subst (λ a. AreParted a (map now (ps ++ p ∷ [])) (map now (rs ++ r ∷ []))) (sym first)
    (subst (λ b. AreParted (map now (take i js) ++ j.now ∷ []) b (map now (rs ++ r ∷ []))) (sym (map_push now ps p))
    (subst (λ c. AreParted (map now (take i js) ++ j.now ∷ []) (map now ps ++ p.now ∷ []) c) (sym (map_push now rs r)) more))

pub parted_whole : (js ps rs : List (Bor (List Record))) (i : ℕ) → length js ≤ i → AreParted (map (λ (x : Bor (List Record)). x.now) (take i js)) (map (λ (x : Bor (List Record)). x.now) ps) (map (λ (x : Bor (List Record)). x.now) rs)
    → AreParted (map (λ (x : Bor (List Record)). x.now) js) (map (λ (x : Bor (List Record)). x.now) ps) (map (λ (x : Bor (List Record)). x.now) rs)
parted_whole js ps rs i past all = subst (λ (l : List (Bor (List Record))). AreParted (map now l) (map now ps) (map now rs)) (take_all i js past) all

-- ---- one more phase
pub falls_on : (phases : List Phase) (i : ℕ) (phase : Phase) (journals parts rests : List (List Record)) (whole : Type 0) → i < length phases → phase ≡ get_or phases i phase → AreParted journals parts rests → PhaseHolds phase parts
    → (ArePhased (drop i phases) journals → whole) → ArePhased (drop (i + 1) phases) rests → whole
falls_on phases i phase journals parts rests whole within at parted holds before falls =
    let first : drop i phases ≡ phase ∷ drop (i + 1) phases = drop_more phases i phase within ∙ ap (λ (p : Phase). p ∷ drop (i + 1) phases) (sym at) in
    before (subst (λ ps. ArePhased ps journals) (sym first) (record { parts = parts; rests = rests; parted = parted; holds = holds; others = falls }))

-- ---- nothing left
pub empty_more : (lent : List (Bor (List Record))) (i : ℕ) (x : Bor (List Record)) → i < length lent → x ≡ get_or lent i x → x.now ≡ [] → All (λ (r : List Record). r ≡ []) (map (λ (r : Bor (List Record)). r.now) (take i lent)) → All (λ (r : List Record). r ≡ []) (map (λ (r : Bor (List Record)). r.now) (take (i + 1) lent))
empty_more lent i x within at none all =
    let more : map now (take (i + 1) lent) ≡ map now (take i lent) ++ x.now ∷ [] = ap (map now) (take_more lent i x within) ∙ map_push now (take i lent) (get_or lent i x) ∙ ap (λ (y : Bor (List Record)). map now (take i lent) ++ y.now ∷ []) (sym at) in
    subst (All (λ (r : List Record). r ≡ [])) (sym more) (All-append (λ (r : List Record). r ≡ []) (map now (take i lent)) (x.now ∷ []) all (All-cons (λ (r : List Record). r ≡ []) x.now [] none (All-nil (λ (r : List Record). r ≡ []))))

-- ---- the records of one more journal
pub records_more : (closed : List JournalValue) (i : ℕ) (x : JournalValue) (all : List (Bor (List Record))) (rs : Bor (List Record)) → i < length closed → x ≡ get_or closed i x → rs.now ≡ x.records
    → map (λ (r : Bor (List Record)). r.now) all ≡ map (λ (j : JournalValue). j.records) (take i closed) → map (λ (r : Bor (List Record)). r.now) (all ++ rs ∷ []) ≡ map (λ (j : JournalValue). j.records) (take (i + 1) closed)
records_more closed i x all rs within at is so_far =
    let own : JournalValue → List Record = λ j. j.records in
    map_push now all rs ∙ (λ k. so_far k ++ is k ∷ []) ∙ ap (λ (y : JournalValue). map own (take i closed) ++ own y ∷ []) at ∙ sym (map_push own (take i closed) (get_or closed i x)) ∙ ap (map own) (sym (take_more closed i x within))

-- ---- appending one element
pub pushed : {A : Type 0} (xs : List A) (x : A) → length (xs ++ x ∷ []) ≡ length xs + 1
pushed [] x = refl
pushed (y ∷ xs) x = omega (arith, pushed xs x)

-- no records are left after the last phase
pub falls_last : (phases : List Phase) (i : ℕ) (journals : List (List Record)) (whole : Type 0) → length phases ≤ i → (ArePhased (drop i phases) journals → whole) → All (λ (r : List Record). r ≡ []) journals → whole
falls_last phases i journals whole past before none = before (subst (λ ps. ArePhased ps journals) (sym (drop_all i phases past)) none)
