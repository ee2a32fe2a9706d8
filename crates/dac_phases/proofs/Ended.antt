-- The walk over the phases finds their ends.
use Rattle.std.proofs.Common.{◌≡◌, ℕ, zero, suc, ◌+◌, ◌-◌, ◌<◌, ◌≤◌, All, List, [], ◌∷◌, ◌++◌, length, map, take, drop, get_or, Bor, refl, sym, ap, ◌∙◌, subst, append_assoc, append-nil, length-drop, arith}
use Rattle.dac_phases.specs.laws.Common.{length-map, take_more, map_push, Record, JournalValue, AreParted, PhaseHolds, ArePhased, part_at, AreOfSeats, FallIntoPhases}
use Rattle.std.specs.List.{AllZip}
use Rattle.std.proofs.lemmas.List.{length-append, take-append-drop, take_at, length-take-le, drop_more, drop_all, get_or-map}
use Rattle.dac_crews.specs.Journals.{nowhere}
use Rattle.dac_crews.specs.declared.phases.Phase.{Phase}
use Rattle.dac_phases.specs.Ends.{between, RiseTo, HoldBetween, no_ends, lengths_of, EndPhases, HasCallers, part_length, HaveLengths, ends_before}
use Rattle.dac_phases.specs.Pairs.{IsSeat, SeatsHold}
use Rattle.dac_phases.specs.Phases.{BeginWith}
use Rattle.dac_phases.proofs.Counted.{part_total}

-- ---- lists by place
same_lists : {X : Type 0} (d : X) (xs ys : List X) → length xs ≡ length ys → ((n : ℕ) → n < length xs → get_or xs n d ≡ get_or ys n d) → xs ≡ ys
same_lists d [] [] long each = refl
same_lists d [] (y ∷ ys) long each = absurd (omega (arith, long))
same_lists d (x ∷ xs) [] long each = absurd (omega (arith, long))
same_lists d (x ∷ xs) (y ∷ ys) long each =
    let first = each 0 (omega arith) in
    let rest = same_lists d xs ys (omega (arith, long)) (λ n lt. each (suc n) (omega (arith, lt))) in
    λ k. first k ∷ rest k

all_zip_from : (xs ys : List ℕ) → length xs ≡ length ys → ((n : ℕ) → n < length xs → get_or xs n 0 ≤ get_or ys n 0) → AllZip (λ (m n : ℕ). m ≤ n) xs ys
all_zip_from [] [] long each = tt
all_zip_from [] (y ∷ ys) long each = absurd (omega (arith, long))
all_zip_from (x ∷ xs) [] long each = absurd (omega (arith, long))
all_zip_from (x ∷ xs) (y ∷ ys) long each = (each 0 (omega arith), all_zip_from xs ys (omega (arith, long)) (λ n lt. each (suc n) (omega (arith, lt))))

-- ---- journals in two parts
pub record Halves (js ps rs : List (List Record)) : Type 0 where
  pub parts : length ps ≡ length js
  pub rests : length rs ≡ length js
  pub each : (n : ℕ) → n < length js → part_at js n ≡ part_at ps n ++ part_at rs n

pub halves : (js ps rs : List (List Record)) → AreParted js ps rs → Halves js ps rs
halves [] [] [] all = record { parts = refl; rests = refl; each = λ n lt. absurd (omega (arith, lt)) }
halves [] [] (r ∷ rs) all = absurd all
halves [] (p ∷ ps) [] all = absurd all
halves [] (p ∷ ps) (r ∷ rs) all = absurd all
halves (j ∷ js) [] [] all = absurd all
halves (j ∷ js) [] (r ∷ rs) all = absurd all
halves (j ∷ js) (p ∷ ps) [] all = absurd all
halves (j ∷ js) (p ∷ ps) (r ∷ rs) all =
    let rest = halves js ps rs all.1 in
    record { parts = ap suc rest.parts; rests = ap suc rest.rests; each = first_or rest.each }
  where
    first_or : ((n : ℕ) → n < length js → part_at js n ≡ part_at ps n ++ part_at rs n) → (n : ℕ) → n < suc (length js) → part_at (j ∷ js) n ≡ part_at (p ∷ ps) n ++ part_at (r ∷ rs) n
    first_or later zero lt = all.0
    first_or later (suc n) lt = later n (omega (arith, lt))

-- fronts of one length are one
append_same : {X : Type 0} (p q r s : List X) → p ++ r ≡ q ++ s → length p ≡ length q → (p ≡ q) × (r ≡ s)
append_same [] [] r s e long = (refl, e)
append_same [] (y ∷ q) r s e long = absurd (omega (arith, long))
append_same (x ∷ p) [] r s e long = absurd (omega (arith, long))
append_same {X} (x ∷ p) (y ∷ q) r s e long =
    let head : x ≡ y = cc in
    let rest = append_same p q r s (cc) (omega (arith, long)) in
    (λ k. head k ∷ rest.0 k, rest.1)

same_halves : (js ps rs qs ss : List (List Record)) → Halves js ps rs → Halves js qs ss → ((n : ℕ) → n < length js → length (part_at ps n) ≡ length (part_at qs n)) → (ps ≡ qs) × (rs ≡ ss)
same_halves js ps rs qs ss a b long =
    let at = λ (n : ℕ) (lt : n < length js). append_same (part_at ps n) (part_at qs n) (part_at rs n) (part_at ss n) (sym (a.each n lt) ∙ b.each n lt) (long n lt) in (
      same_lists [] ps qs (a.parts ∙ sym b.parts) (λ n lt. (at n (omega (arith, lt, a.parts))).0),
      same_lists [] rs ss (a.rests ∙ sym b.rests) (λ n lt. (at n (omega (arith, lt, a.rests))).1),
    )

-- ---- one more part
pub lengths_more : (parts : List (Bor (List Record))) (part : Bor (List Record)) (size : ℕ → ℕ) (i : ℕ) → length parts ≡ i → length part.now ≡ size i → ((n : ℕ) → n < i → length (part_at (map (λ (p : Bor (List Record)). p.now) parts) n) ≡ size n)
    → (n : ℕ) → n < i + 1 → length (part_at (map (λ (p : Bor (List Record)). p.now) (parts ++ part ∷ [])) n) ≡ size n
lengths_more [] part size i long is before zero lt = is ∙ ap size (sym long)
lengths_more [] part size i long is before (suc n) lt = absurd (omega (arith, lt, long))
lengths_more (p ∷ parts) part size i long is before zero lt = before 0 (omega (arith, long))
lengths_more (p ∷ parts) part size i long is before (suc n) lt =
    let less : length parts ≡ i - 1 = omega (arith, long) in
    let at : suc (i - 1) ≡ i = omega (arith, long) in
    lengths_more parts part (λ k. size (suc k)) (i - 1) less (is ∙ ap size (sym at)) (λ k below. before (suc k) (omega (arith, below))) n (omega (arith, lt, long))

-- ---- ends
ends-push : (js rs : List (List Record)) (j r : List Record) → length rs ≡ length js → ends_before (js ++ j ∷ []) (rs ++ r ∷ []) ≡ ends_before js rs ++ (length j - length r) ∷ []
ends-push [] [] j r long = refl
ends-push [] (s ∷ rs) j r long = absurd (omega (arith, long))
ends-push (k ∷ js) [] j r long = absurd (omega (arith, long))
ends-push (k ∷ js) (s ∷ rs) j r long = ap (λ (ns : List ℕ). (length k - length s) ∷ ns) (ends-push js rs j r (omega (arith, long)))

-- the end in one more journal
pub ends_more : (closed : List JournalValue) (rests : List (Bor (List Record))) (i : ℕ) (j : JournalValue) (r : Bor (List Record)) (row more : List ℕ) (end : ℕ) → i < length closed → length rests ≡ length closed → j ≡ get_or closed i j → r ≡ get_or rests i r → end ≡ length j.records - length r.now → more ≡ row ++ end ∷ []
    → row ≡ ends_before (map (λ (x : JournalValue). x.records) (take i closed)) (map (λ (x : Bor (List Record)). x.now) (take i rests))
    → more ≡ ends_before (map (λ (x : JournalValue). x.records) (take (i + 1) closed)) (map (λ (x : Bor (List Record)). x.now) (take (i + 1) rests))
ends_more closed rests i j r row more end lt long at on end_is more_is so_far =
    let own : JournalValue → List Record = λ x. x.records in
    let now : Bor (List Record) → List Record = λ x. x.now in
    let js = map own (take i closed) in
    let rs = map now (take i rests) in
    let inside : i < length rests = omega (arith, lt, long) in
    let first : map own (take (i + 1) closed) ≡ js ++ j.records ∷ [] = ap (map own) (take_more closed i j lt) ∙ map_push own (take i closed) (get_or closed i j) ∙ ap (λ (x : JournalValue). js ++ x.records ∷ []) (sym at) in
    let second : map now (take (i + 1) rests) ≡ rs ++ r.now ∷ [] = ap (map now) (take_more rests i r inside) ∙ map_push now (take i rests) (get_or rests i r) ∙ ap (λ (x : Bor (List Record)). rs ++ x.now ∷ []) (sym on) in
    let sizes : length rs ≡ length js = omega (arith, length-map (take i rests) now, length-map (take i closed) own, length-take-le i rests (below inside), length-take-le i closed (below lt)) in
    more_is ∙ ap (λ (ns : List ℕ). ns ++ end ∷ []) so_far ∙ ap (λ n. ends_before js rs ++ n ∷ []) end_is ∙ sym (ends-push js rs j.records r.now sizes) ∙ (λ k. ends_before (sym first k) (sym second k))
  where
    below : {m n : ℕ} → m < n → m ≤ n
    below h = omega (arith, h)

length-ends : (js rests : List (List Record)) → length rests ≡ length js → length (ends_before js rests) ≡ length js
length-ends [] rests long = refl
length-ends (j ∷ js) [] long = absurd (omega (arith, long))
length-ends (j ∷ js) (r ∷ rests) long = ap suc (length-ends js rests (omega (arith, long)))

get_or-ends : (js rests : List (List Record)) (n : ℕ) → length rests ≡ length js → n < length js → get_or (ends_before js rests) n 0 ≡ length (part_at js n) - length (part_at rests n)
get_or-ends [] rests n long lt = absurd (omega (arith, lt))
get_or-ends (j ∷ js) [] n long lt = absurd (omega (arith, long))
get_or-ends (j ∷ js) (r ∷ rests) zero long lt = refl
get_or-ends (j ∷ js) (r ∷ rests) (suc n) long lt = get_or-ends js rests n (omega (arith, long)) (omega (arith, lt))

length-between : (js : List (List Record)) (before row : List ℕ) → length before ≡ length js → length row ≡ length js → length (between js before row) ≡ length js
length-between [] before row a b = refl
length-between (j ∷ js) [] row a b = absurd (omega (arith, a))
length-between (j ∷ js) (m ∷ before) [] a b = absurd (omega (arith, b))
length-between (j ∷ js) (m ∷ before) (n ∷ row) a b = ap suc (length-between js before row (omega (arith, a)) (omega (arith, b)))

part_at-between : (js : List (List Record)) (before row : List ℕ) (n : ℕ) → length before ≡ length js → length row ≡ length js → n < length js → part_at (between js before row) n ≡ drop (get_or before n 0) (take (get_or row n 0) (part_at js n))
part_at-between [] before row n a b lt = absurd (omega (arith, lt))
part_at-between (j ∷ js) [] row n a b lt = absurd (omega (arith, a))
part_at-between (j ∷ js) (m ∷ before) [] n a b lt = absurd (omega (arith, b))
part_at-between (j ∷ js) (m ∷ before) (k ∷ row) zero a b lt = refl
part_at-between (j ∷ js) (m ∷ before) (k ∷ row) (suc n) a b lt = part_at-between js before row n (omega (arith, a)) (omega (arith, b)) (omega (arith, lt))

-- ---- one journal
drop_at : {X : Type 0} (p q : List X) (n : ℕ) → length p ≡ n → drop n (p ++ q) ≡ q
drop_at [] q zero e = refl
drop_at [] q (suc n) e = absurd (omega (arith, e))
drop_at (x ∷ p) q zero e = absurd (omega (arith, e))
drop_at (x ∷ p) q (suc n) e = drop_at p q n (omega (arith, e))

-- a journal whose records from `start` on are a part and a rest
module _ (j part rest : List Record) (start : ℕ) (within : start ≤ length j) (is : drop start j ≡ part ++ rest) where
  abbrev end : ℕ
  end = length j - length rest

  front : length (take start j) ≡ start
  front = length-take-le start j within

  whole : j ≡ (take start j ++ part) ++ rest
  whole = sym (take-append-drop start j) ∙ ap (λ (xs : List Record). take start j ++ xs) is ∙ sym (append_assoc (take start j) part rest)

  sizes : length j ≡ (start + length part) + length rest
  sizes = ap length whole ∙ length-append (take start j ++ part) rest ∙ ap (λ n. n + length rest) (length-append (take start j) part ∙ ap (λ n. n + length part) front)

  pub end_is : end ≡ start + length part
  end_is = omega (arith, sizes)

  pub end_within : end ≤ length j
  end_within = omega arith

  fronts : length (take start j ++ part) ≡ end
  fronts = length-append (take start j) part ∙ ap (λ n. n + length part) front ∙ sym end_is

  pub rest_is : rest ≡ drop end j
  rest_is = sym (ap (drop end) whole ∙ drop_at (take start j ++ part) rest end fronts)

  pub part_is : drop start (take end j) ≡ part
  part_is = ap (drop start) (ap (take end) whole ∙ take_at (take start j ++ part) rest end fronts) ∙ drop_at (take start j) part start front

-- ---- the walk
pub record Walked (phases : List Phase) (js : List (List Record)) (starts last : List ℕ) (i : ℕ) (journals : List (List Record)) (rows : List (List ℕ)) : Type 0 where
  pub row : List ℕ
  pub long_row : length row ≡ length js
  pub long : length journals ≡ length js
  pub within : (n : ℕ) → n < length js → get_or row n 0 ≤ length (part_at js n)
  pub each : (n : ℕ) → n < length js → part_at journals n ≡ drop (get_or row n 0) (part_at js n)
  pub falls : ArePhased (drop i phases) journals
  pub seats : (n : ℕ) → n < length js → AreOfSeats (length js) (part_at journals n)
  pub rise : (later : List (List ℕ)) → RiseTo last later row → RiseTo last (rows ++ later) starts
  pub hold : (later : List (List ℕ)) → HoldBetween js (drop i phases) later row → HoldBetween js phases (rows ++ later) starts

All-left : {X : Type 0} (P : X → Type 0) (xs ys : List X) → All P (xs ++ ys) → All P xs
All-left P xs ys all = λ k d lt. subst P (front_get xs ys k d lt) (all k d (omega (arith, lt, length-append xs ys)))
  where
    front_get : {Y : Type 0} (us bs : List Y) (k : ℕ) (d : Y) → k < length us → get_or (us ++ bs) k d ≡ get_or us k d
    front_get [] bs k d lt = absurd (omega (arith, lt))
    front_get (a ∷ us) bs zero d lt = refl
    front_get (a ∷ us) bs (suc k) d lt = front_get us bs k d (omega (arith, lt))

All-right : {X : Type 0} (P : X → Type 0) (xs ys : List X) → All P (xs ++ ys) → All P ys
All-right P xs ys all = λ k d lt. subst P (back_get xs ys k d) (all (length xs + k) d (omega (arith, lt, length-append xs ys)))
  where
    back_get : {Y : Type 0} (us bs : List Y) (k : ℕ) (d : Y) → get_or (us ++ bs) (length us + k) d ≡ get_or bs k d
    back_get [] bs k d = ap (λ n. get_or bs n d) (zero_first k)
      where
        zero_first : (n : ℕ) → 0 + n ≡ n
        zero_first n = omega arith
    back_get (a ∷ us) bs k d = ap (λ n. get_or (a ∷ (us ++ bs)) n d) (suc_first (length us) k) ∙ back_get us bs k d
      where
        suc_first : (m n : ℕ) → suc m + n ≡ suc (m + n)
        suc_first m n = omega arith

module _ (phases : List Phase) (js : List (List Record)) (starts last : List ℕ) (i : ℕ) (journals : List (List Record)) (rows : List (List ℕ)) (w : Walked phases js starts last i journals rows) (phase : Phase) (lt : i < length phases) (at : phase ≡ get_or phases i phase) (callers : HasCallers phase) where
  first : drop i phases ≡ phase ∷ drop (i + 1) phases
  first = drop_more phases i phase lt ∙ ap (λ (p : Phase). p ∷ drop (i + 1) phases) (sym at)

  begins : BeginWith phase (ArePhased (drop (i + 1) phases)) journals
  begins = subst (λ ps. ArePhased ps journals) first w.falls

  own : Halves journals begins.parts begins.rests
  own = halves journals begins.parts begins.rests begins.parted

  -- the parts have the lengths that the program computes
  exact : (n : ℕ) → n < length js → length (part_at begins.parts n) ≡ part_length phase journals n
  exact n inside =
      let here : n < length journals = omega (arith, inside, w.long) in
      let in_parts : n < length begins.parts = omega (arith, inside, w.long, own.parts) in
      part_total phase begins.parts begins.holds n in_parts journals (length js) (length js - 1) (omega (arith, inside)) (omega (arith, w.long, own.parts)) (omega (arith, w.long))
      (All-left (λ (r : Record). IsSeat (length js) r.seat) (part_at begins.parts n) (part_at begins.rests n) (subst (AreOfSeats (length js)) (own.each n here) (w.seats n inside)))
      callers
      (λ k less. (part_at begins.rests k, own.each k less))

  module _ (parts rests : List (List Record)) (parted : AreParted journals parts rests) (lengths : HaveLengths phase journals parts) (row : List ℕ) (row_is : row ≡ ends_before js rests) where
    computed : Halves journals parts rests
    computed = halves journals parts rests parted

    inside : (n : ℕ) → n < length js → n < length journals
    inside n less = omega (arith, less, w.long)

    same : (parts ≡ begins.parts) × (rests ≡ begins.rests)
    same = same_halves journals parts rests begins.parts begins.rests computed own (λ n less.
        let here : n < length js = omega (arith, less, w.long) in
        let all : length (part_at journals n) ≡ length (part_at begins.parts n) + length (part_at begins.rests n) = ap length (own.each n less) ∙ length-append (part_at begins.parts n) (part_at begins.rests n) in
        omega (arith, lengths n less, exact n here, all))

    -- a journal from the row before on
    from : (n : ℕ) → n < length js → drop (get_or w.row n 0) (part_at js n) ≡ part_at parts n ++ part_at rests n
    from n less = sym (w.each n less) ∙ computed.each n (inside n less)

    row_at : (n : ℕ) → n < length js → get_or row n 0 ≡ length (part_at js n) - length (part_at rests n)
    row_at n less = ap (λ (r : List ℕ). get_or r n 0) row_is ∙ get_or-ends js rests n (computed.rests ∙ w.long) less

    long_now : length row ≡ length js
    long_now = ap length row_is ∙ length-ends js rests (computed.rests ∙ w.long)

    rises : AllZip (λ (m n : ℕ). m ≤ n) w.row row
    rises = all_zip_from w.row row (w.long_row ∙ sym long_now) (λ n less.
        let here : n < length js = omega (arith, less, w.long_row) in
        let more = end_is (part_at js n) (part_at parts n) (part_at rests n) (get_or w.row n 0) (w.within n here) (from n here) in
        omega (arith, more, row_at n here))

    own_parts : between js w.row row ≡ begins.parts
    own_parts = same_lists [] (between js w.row row) begins.parts (length-between js w.row row w.long_row long_now ∙ sym (own.parts ∙ w.long)) (λ n less.
        let here : n < length js = omega (arith, less, length-between js w.row row w.long_row long_now) in
        part_at-between js w.row row n w.long_row long_now here ∙ ap (λ k. drop (get_or w.row n 0) (take k (part_at js n))) (row_at n here)
        ∙ part_is (part_at js n) (part_at parts n) (part_at rests n) (get_or w.row n 0) (w.within n here) (from n here)
        ∙ ap (λ (ps : List (List Record)). part_at ps n) same.0)

    pub walked_on : (more : List (List ℕ)) → more ≡ rows ++ row ∷ [] → Walked phases js starts last (i + 1) rests more
    walked_on more more_is = record {
      row = row;
      long_row = long_now;
      long = computed.rests ∙ w.long;
      within = λ n less. let e = end_within (part_at js n) (part_at parts n) (part_at rests n) (get_or w.row n 0) (w.within n less) (from n less) in omega (arith, e, row_at n less);
      each = λ n less. rest_is (part_at js n) (part_at parts n) (part_at rests n) (get_or w.row n 0) (w.within n less) (from n less) ∙ ap (λ k. drop k (part_at js n)) (sym (row_at n less));
      falls = subst (ArePhased (drop (i + 1) phases)) (sym same.1) begins.others;
      seats = λ n less. All-right (λ (r : Record). IsSeat (length js) r.seat) (part_at parts n) (part_at rests n) (subst (AreOfSeats (length js)) (computed.each n (inside n less)) (w.seats n less));
      rise = λ later up. subst (λ (rs : List (List ℕ)). RiseTo last rs starts) (joined later) (w.rise (row ∷ later) (rises, up));
      hold = λ later holds. subst (λ (rs : List (List ℕ)). HoldBetween js phases rs starts) (joined later)
          (w.hold (row ∷ later) (subst (λ (ps : List Phase). HoldBetween js ps (row ∷ later) w.row) (sym first) (subst (PhaseHolds phase) (sym own_parts) begins.holds, holds)));
    }
      where
        joined : (later : List (List ℕ)) → rows ++ row ∷ later ≡ more ++ later
        joined later = sym (ap (λ (rs : List (List ℕ)). rs ++ later) more_is ∙ append_assoc rows (row ∷ []) later)

pub lent_long : (closed : List JournalValue) (journals : List (Bor (List Record))) → length (map (λ (r : Bor (List Record)). r.now) journals) ≡ length (map (λ (j : JournalValue). j.records) closed) → length journals ≡ length closed
lent_long closed journals long = sym (length-map journals (λ (r : Bor (List Record)). r.now)) ∙ long ∙ length-map closed (λ (j : JournalValue). j.records)

-- ---- before the first phase, and after the last
module _ (phases : List Phase) (closed : List JournalValue) where
  abbrev pub all_records : List (List Record)
  all_records = map (λ (j : JournalValue). j.records) closed

  abbrev nobody : JournalValue
  nobody = record { beginning = nowhere; records = [] }

  first_ends : (js : List JournalValue) (n : ℕ) → get_or (no_ends js) n 0 ≡ 0
  first_ends [] n = refl
  first_ends (j ∷ js) zero = refl
  first_ends (j ∷ js) (suc n) = first_ends js n

  pub walked_first : (journals : List (List Record)) (rows : List (List ℕ)) → SeatsHold closed → FallIntoPhases phases closed → journals ≡ all_records → rows ≡ [] → Walked phases all_records (no_ends closed) (lengths_of closed) 0 journals rows
  walked_first journals rows seats falls journals_are none = subst (λ (ks : List (List Record)). Walked phases all_records (no_ends closed) (lengths_of closed) 0 ks rows) (sym journals_are)
      (subst (Walked phases all_records (no_ends closed) (lengths_of closed) 0 all_records) (sym none) (record {
        row = no_ends closed;
        long_row = length-map closed (λ (j : JournalValue). 0) ∙ sym (length-map closed (λ (j : JournalValue). j.records));
        long = refl;
        within = λ n less. omega (arith, first_ends closed n);
        each = λ n less. ap (λ k. drop k (part_at all_records n)) (sym (first_ends closed n));
        falls = falls;
        seats = λ n less.
            let many : length all_records ≡ length closed = length-map closed (λ (j : JournalValue). j.records) in
            let here : n < length closed = omega (arith, less, many) in
            subst (λ (k : ℕ). AreOfSeats k (part_at all_records n)) (sym many)
            (subst (AreOfSeats (length closed)) (sym (get_or-map (λ (j : JournalValue). j.records) closed n nobody [] here)) (seats n nobody here));
        rise = λ later up. up;
        hold = λ later holds. holds;
      }))

  pub walked_last : (i : ℕ) (journals : List (List Record)) (rows : List (List ℕ)) → Walked phases all_records (no_ends closed) (lengths_of closed) i journals rows → length phases ≤ i → EndPhases phases closed rows
  walked_last i journals rows w past = record {
    rise = subst (λ (rs : List (List ℕ)). RiseTo (lengths_of closed) rs (no_ends closed)) (append-nil rows) (w.rise [] whole);
    hold = subst (λ (rs : List (List ℕ)). HoldBetween all_records phases rs (no_ends closed)) (append-nil rows) (w.hold [] (subst (λ (ps : List Phase). HoldBetween all_records ps [] w.row) (sym none) tt));
  }
    where
      none : drop i phases ≡ []
      none = drop_all i phases past

      empty : All (λ (rs : List Record). rs ≡ []) journals
      empty = subst (λ (ps : List Phase). ArePhased ps journals) none w.falls

      many : length all_records ≡ length closed
      many = length-map closed (λ (j : JournalValue). j.records)

      whole : w.row ≡ lengths_of closed
      whole = same_lists 0 w.row (lengths_of closed) (w.long_row ∙ many ∙ sym (length-map closed (λ (j : JournalValue). length j.records))) (λ n less.
          let here : n < length all_records = omega (arith, less, w.long_row) in
          let inside : n < length closed = omega (arith, here, many) in
          let gone : length (drop (get_or w.row n 0) (part_at all_records n)) ≡ 0 = ap length (sym (w.each n here) ∙ empty n [] (omega (arith, here, w.long))) in
          let left : length (drop (get_or w.row n 0) (part_at all_records n)) ≡ length (part_at all_records n) - get_or w.row n 0 = length-drop (get_or w.row n 0) (part_at all_records n) in
          let own : part_at all_records n ≡ (get_or closed n nobody).records = get_or-map (λ (j : JournalValue). j.records) closed n nobody [] inside in
          let size : get_or (lengths_of closed) n 0 ≡ length (get_or closed n nobody).records = get_or-map (λ (j : JournalValue). length j.records) closed n nobody 0 inside in
          omega (arith, gone, left, ap length own, size, w.within n here))
