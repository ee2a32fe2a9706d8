-- The number of a node's records in a phase, by its seats.
use Rattle.std.proofs.Common.{◌≡◌, ◌≢◌, ℕ, zero, suc, ◌+◌, ◌*◌, ◌<◌, ◌≤◌, ◌&&◌, not, Bool, true, false, cond, inl, inr, All, List, [], ◌∷◌, ◌++◌, flat_map, Option, Some, None, length, map, take, drop, get_or, eqb, Bor, refl, sym, ap, ◌∙◌, arith}
use Rattle.dac_phases.specs.laws.Common.{eq-eqb, length-map, take_more, map_push, found_more, Event, Record, found, event_one, ask_one, shipper_seat, worker_seat, part_at, AreOfSeats, PhaseHolds}
use Rattle.std.proofs.lemmas.Bool.{cases_eq, ne_eqb}
use Rattle.std.proofs.lemmas.List.{length-append, length-take-le, drop_more, drop_all, get_or_default}
use Rattle.std.proofs.lemmas.List.Elements.{All-head, All-tail}
use Rattle.dac_workers.specs.laws.Found.{listed}
use Rattle.dac_crews.specs.Compared.{before, sent_one, shipped_in}
use Rattle.dac_crews.specs.declared.phases.Line.{Line}
use Rattle.dac_crews.specs.declared.phases.Phase.{Phase}
use Rattle.dac_messages.specs.declared.event.Event.TheVariants.{Hear}
use Rattle.dac_phases.specs.Asks.{event_in}
use Rattle.dac_phases.specs.Ends.{call_one, count_in, first_letters, link_records, HasCallers}
use Rattle.dac_phases.specs.Seating.{numbers_from, seats_for, seats_of}
use Rattle.dac_phases.proofs.Seating.{seats_in_order}

-- ---- sums
total : (ℕ → ℕ) → List ℕ → ℕ
total f [] = 0
total f (x ∷ xs) = f x + total f xs

abbrev one : Bool → ℕ
one b = cond b 1 0

total-same : (f g : ℕ → ℕ) (xs : List ℕ) → ((x : ℕ) → f x ≡ g x) → total f xs ≡ total g xs
unfolding total
total-same f g [] same = refl
total-same f g (x ∷ xs) same = omega (arith, same x, total-same f g xs same)

total-add : (f g : ℕ → ℕ) (xs : List ℕ) → total (λ x. f x + g x) xs ≡ total f xs + total g xs
unfolding total
total-add f g [] = refl
total-add f g (x ∷ xs) = omega (arith, total-add f g xs)

total-none : (xs : List ℕ) → total (λ x. 0) xs ≡ 0
unfolding total
total-none [] = refl
total-none (x ∷ xs) = omega (arith, total-none xs)

total-append : (f : ℕ → ℕ) (xs ys : List ℕ) → total f (xs ++ ys) ≡ total f xs + total f ys
unfolding total
total-append f [] ys = omega arith
total-append f (x ∷ xs) ys = omega (arith, total-append f xs ys)

total-flat_map : (f : ℕ → ℕ) (g : ℕ → List ℕ) (xs : List ℕ) → total f (flat_map g xs) ≡ total (λ x. total f (g x)) xs
unfolding total
total-flat_map f g [] = refl
total-flat_map f g (x ∷ xs) = omega (arith, total-append f (g x) (flat_map g xs), total-flat_map f g xs)

-- ---- each record is of one seat
abbrev hit : ℕ → ℕ → ℕ
hit seat s = one (eqb seat s)

missed : (seat first n : ℕ) → seat < first → total (hit seat) (numbers_from first n) ≡ 0
unfolding total
missed seat first zero lt = refl
missed seat first (suc n) lt =
    let other : hit seat first ≡ 0 = ap one (ne_eqb seat first (λ e. omega (arith, lt, e))) in
    let rest = missed seat (suc first) n (omega (arith, lt)) in
    omega (arith, other, rest)

met : (seat first n : ℕ) → first ≤ seat → seat < first + n → total (hit seat) (numbers_from first n) ≡ 1
unfolding total
met seat first zero low high = absurd (omega (arith, low, high))
met seat first (suc n) low high = elim (cases_eq seat first) [
  | inl e ↦
      let here : hit seat first ≡ 1 = ap one (eq-eqb seat first e) in
      let rest = missed seat (suc first) n (omega (arith, e)) in
      omega (arith, here, rest)
  | inr ne ↦
      let other : hit seat first ≡ 0 = ap one (ne_eqb seat first ne) in
      let rest = met seat (suc first) n (above ne) (omega (arith, high)) in
      omega (arith, other, rest)
]
  where
    above : (seat ≡ first → ⊥) → suc first ≤ seat
    above ne = omega (arith, low)

-- the number of a seat's records
abbrev pub counted : ℕ → List Record → ℕ
counted seat rs = length (found (event_one seat) rs)

counted-cons : (seat : ℕ) (r : Record) (rs : List Record) → counted seat (r ∷ rs) ≡ hit r.seat seat + counted seat rs
counted-cons seat r rs = elim (eqb r.seat seat) as (λ b. length (before (cond b (Some r.event) None) (found (event_one seat) rs)) ≡ one b + counted seat rs) [
  | true ↦ omega arith
  | false ↦ omega arith
]

by_seats : (last : ℕ) (rs : List Record) → All (λ (r : Record). (1 ≤ r.seat) × (r.seat ≤ last)) rs → length rs ≡ total (λ s. counted s rs) (numbers_from 1 last)
by_seats last [] all = sym (total-none (numbers_from 1 last))
by_seats last (r ∷ rs) all =
    let P : Record → Type 0 = λ (x : Record). (1 ≤ x.seat) × (x.seat ≤ last) in
    let here = All-head P r rs all in
    let one_more = met r.seat 1 last here.0 (omega (arith, here.1)) in
    let rest = by_seats last rs (All-tail P r rs all) in
    let split : total (λ s. counted s (r ∷ rs)) (numbers_from 1 last) ≡ total (hit r.seat) (numbers_from 1 last) + total (λ s. counted s rs) (numbers_from 1 last) =
    total-same (λ s. counted s (r ∷ rs)) (λ s. hit r.seat s + counted s rs) (numbers_from 1 last) (λ s. counted-cons s r rs) ∙ total-add (hit r.seat) (λ s. counted s rs) (numbers_from 1 last) in
    omega (arith, one_more, rest, split)

-- ---- values found
count-listed : {B : Type 0} (o : Option B) → length (listed o) ≡ count_in o
count-listed None = refl
count-listed (Some y) = refl

pub count_few : {B : Type 0} (o : Option B) → count_in o ≤ 1
count_few None = omega arith
count_few (Some y) = omega arith

pub counted_more : {A B : Type 0} (f : A → Option B) (xs : List A) (i : ℕ) (x : A) → i < length xs → x ≡ get_or xs i x → length (found f (take (i + 1) xs)) ≡ length (found f (take i xs)) + count_in (f x)
counted_more f xs i x lt at = ap length (found_more f xs i x (f x) lt at refl) ∙ length-append (found f (take i xs)) (listed (f x)) ∙ ap (λ n. length (found f (take i xs)) + n) (count-listed (f x))

-- the same of an element that is read with a default
pub counted_read : {A B : Type 0} (f : A → Option B) (xs : List A) (i n : ℕ) (d : A) → i < length xs → n ≡ count_in (f (get_or xs i d)) → length (found f (take (i + 1) xs)) ≡ length (found f (take i xs)) + n
counted_read f xs i n d lt same = counted_more f xs i (get_or xs i d) lt (get_or_default xs i d (get_or xs i d) lt) ∙ ap (λ m. length (found f (take i xs)) + m) (sym same)

-- ---- callers
count-before : {B : Type 0} (o : Option B) (ys : List B) → length (before o ys) ≡ count_in o + length ys
count-before None ys = omega arith
count-before (Some y) ys = omega arith

abbrev asked : Bool → Bool → Option Event → ℕ
asked own by o = count_in (cond (own && by) o None)

one_caller : (own : Bool) (o : Option Event) (k : ℕ) → 1 ≤ k → k ≤ 4 → asked own (eqb k 1) o + (asked own (eqb k 2) o + (asked own (eqb k 3) o + asked own (eqb k 4) o)) ≡ count_in (cond own o None)
one_caller false o k low high = refl
one_caller true None k low high = none (eqb k 1) (eqb k 2) (eqb k 3) (eqb k 4)
  where
    no : (b : Bool) → count_in {X = Event} (cond b None None) ≡ 0
    no true = refl
    no false = refl

    none : (a b c d : Bool) → asked true a None + (asked true b None + (asked true c None + asked true d None)) ≡ 0
    none a b c d = omega (arith, no a, no b, no c, no d)
one_caller true (Some e) zero low high = absurd (omega (arith, low))
one_caller true (Some e) (suc zero) low high = refl
one_caller true (Some e) (suc (suc zero)) low high = refl
one_caller true (Some e) (suc (suc (suc zero))) low high = refl
one_caller true (Some e) (suc (suc (suc (suc zero)))) low high = refl
one_caller true (Some e) (suc (suc (suc (suc (suc k))))) low high = absurd (omega (arith, high))

abbrev asks : ℕ → ℕ → List Line → ℕ
asks node caller lines = length (found (ask_one node caller) lines)

callers_total : (node : ℕ) (lines : List Line) → All (λ (line : Line). (1 ≤ line.caller) × (line.caller ≤ 4)) lines → asks node 1 lines + (asks node 2 lines + (asks node 3 lines + asks node 4 lines)) ≡ length (found (call_one node) lines)
callers_total node [] all = refl
callers_total node (line ∷ lines) all =
    let P : Line → Type 0 = λ (x : Line). (1 ≤ x.caller) × (x.caller ≤ 4) in
    let here = All-head P line lines all in
    let own = one_caller (eqb line.node.0 node) (event_in line.what) line.caller here.0 here.1 in
    let rest = callers_total node lines (All-tail P line lines all) in
    omega (
      arith,
      own,
      rest,
      count-before (ask_one node 1 line) (found (ask_one node 1) lines),
      count-before (ask_one node 2 line) (found (ask_one node 2) lines),
      count-before (ask_one node 3 line) (found (ask_one node 3) lines),
      count-before (ask_one node 4 line) (found (ask_one node 4) lines),
      count-before (call_one node line) (found (call_one node) lines),
    )

-- ---- links
-- the messages that a seat's first records ship, of a part with as many of the seat
letters : (seat ships : ℕ) (part rest : List Record) → counted seat part ≡ ships → first_letters seat ships (part ++ rest) ≡ length (found (sent_one seat) part)
letters seat zero [] rest e = refl
letters seat (suc ships) [] rest e = absurd (omega (arith, e))
letters seat zero (r ∷ part) rest e =
    elim (eqb r.seat seat) as (λ b. length (before (cond b (Some r.event) None) (found (event_one seat) part)) ≡ 0 → 0 ≡ length (before (cond b (shipped_in r.answer) None) (found (sent_one seat) part))) [
      | true ↦ λ h. absurd (omega (arith, h))
      | false ↦ λ h. letters seat zero part rest h
    ] e
letters seat (suc ships) (r ∷ part) rest e =
    elim (eqb r.seat seat) as (λ b. length (before (cond b (Some r.event) None) (found (event_one seat) part)) ≡ suc ships → cond b (count_in (shipped_in r.answer) + first_letters seat ships (part ++ rest)) (first_letters seat (suc ships) (part ++ rest)) ≡ length (before (cond b (shipped_in r.answer) None) (found (sent_one seat) part))) [
      | true ↦ λ h. let more = letters seat ships part rest (omega (arith, h)) in omega (arith, more, count-before (shipped_in r.answer) (found (sent_one seat) part))
      | false ↦ λ h. letters seat (suc ships) part rest h
    ] e

-- ---- the first records of a seat, record by record
module _ (seat : ℕ) (rs : List Record) (i : ℕ) (r : Record) (lt : i < length rs) (at : r ≡ get_or rs i r) where
  rest_from : drop i rs ≡ r ∷ drop (i + 1) rs
  rest_from = drop_more rs i r lt ∙ ap (λ (x : Record). x ∷ drop (i + 1) rs) (sym at)

  -- a record of the seat
  pub letters_own : (left less : ℕ) → left ≡ suc less → r.seat ≡ seat → first_letters seat left (drop i rs) ≡ count_in (shipped_in r.answer) + first_letters seat less (drop (i + 1) rs)
  letters_own left less left_is own =
      ap (λ n. first_letters seat n (drop i rs)) left_is ∙ ap (first_letters seat (suc less)) rest_from
      ∙ ap (λ b. cond b (count_in (shipped_in r.answer) + first_letters seat less (drop (i + 1) rs)) (first_letters seat (suc less) (drop (i + 1) rs))) (eq-eqb r.seat seat own)

  -- a record of another seat
  pub letters_other : (left less : ℕ) → left ≡ suc less → r.seat ≢ seat → first_letters seat left (drop i rs) ≡ first_letters seat left (drop (i + 1) rs)
  letters_other left less left_is other =
      ap (λ n. first_letters seat n (drop i rs)) left_is ∙ ap (first_letters seat (suc less)) rest_from
      ∙ ap (λ b. cond b (count_in (shipped_in r.answer) + first_letters seat less (drop (i + 1) rs)) (first_letters seat (suc less) (drop (i + 1) rs))) (ne_eqb r.seat seat other)
      ∙ ap (λ n. first_letters seat n (drop (i + 1) rs)) (sym left_is)

pub letters_past : (seat left : ℕ) (rs : List Record) (i : ℕ) → length rs ≤ i → first_letters seat left (drop i rs) ≡ 0
letters_past seat left rs i past = ap (first_letters seat left) (drop_all i rs past) ∙ none left
  where
    none : (n : ℕ) → first_letters seat n [] ≡ 0
    none zero = refl
    none (suc n) = refl

-- ---- the links of a node, journal by journal
abbrev link_item : ℕ → ℕ → List Record → ℕ
link_item node other j = cond (eqb other node) 0 (first_letters (shipper_seat other node) 5 j + 5)

links-push : (node k : ℕ) (js : List (List Record)) (j : List Record) → link_records node k (js ++ j ∷ []) ≡ link_records node k js + link_item node (k + length js) j
links-push node k [] j =
    let at : k ≡ k + 0 = omega arith in
    let here : link_item node k j + 0 ≡ link_item node (k + 0) j = (let same = ap (λ n. link_item node n j) at in omega (arith, same)) in
    here ∙ zero_first (link_item node (k + 0) j)
  where
    zero_first : (n : ℕ) → n ≡ 0 + n
    zero_first n = omega arith
links-push node k (i ∷ js) j =
    let rest = links-push node (k + 1) js j in
    let at : (k + 1) + length js ≡ k + suc (length js) = omega arith in
    let same = ap (λ n. link_item node n j) at in
    omega (arith, rest, same)

pub links_more : (node : ℕ) (js : List (Bor (List Record))) (i : ℕ) (j : Bor (List Record)) → i < length js → j ≡ get_or js i j
    → link_records node 0 (map (λ (x : Bor (List Record)). x.now) (take (i + 1) js)) ≡ link_records node 0 (map (λ (x : Bor (List Record)). x.now) (take i js)) + cond (eqb i node) 0 (first_letters (shipper_seat i node) 5 j.now + 5)
links_more node js i j lt at =
    let now : Bor (List Record) → List Record = λ x. x.now in
    let first : map now (take (i + 1) js) ≡ map now (take i js) ++ j.now ∷ [] = ap (map now) (take_more js i j lt) ∙ map_push now (take i js) (get_or js i j) ∙ ap (λ (x : Bor (List Record)). map now (take i js) ++ x.now ∷ []) (sym at) in
    let long : 0 + length (map now (take i js)) ≡ i = omega (arith, length-map (take i js) now, length-take-le i js (less lt)) in
    ap (link_records node 0) first ∙ links-push node 0 (map now (take i js)) j.now ∙ ap (λ n. link_records node 0 (map now (take i js)) + link_item node n j.now) long
  where
    less : i < length js → i ≤ length js
    less h = omega (arith, h)

-- a node has none for itself
pub links_own : (node : ℕ) (js : List (Bor (List Record))) (i : ℕ) → i < length js → eqb i node ≡ true → link_records node 0 (map (λ (x : Bor (List Record)). x.now) (take (i + 1) js)) ≡ link_records node 0 (map (λ (x : Bor (List Record)). x.now) (take i js))
links_own node js i lt own =
    let j = item_at js i lt in
    let more = links_more node js i j.0 lt j.1 in
    let none = ap (λ (b : Bool). cond b 0 (first_letters (shipper_seat i node) 5 j.0.now + 5)) own in
    omega (arith, more, none)
  where
    item_at : (ks : List (Bor (List Record))) (n : ℕ) → n < length ks → (k : Bor (List Record)) × (k ≡ get_or ks n k)
    item_at [] n less = absurd (omega (arith, less))
    item_at (k ∷ ks) zero less = (k, refl)
    item_at (k ∷ ks) (suc n) less = item_at ks n (omega (arith, less))

pub is_not : (b c : Bool) → not b ≡ c → b ≡ not c
is_not true c e = ap not e
is_not false c e = ap not e

module _ (phase : Phase) (parts : List (List Record)) (holds : PhaseHolds phase parts) (node : ℕ) (within : node < length parts) where
  abbrev own : List Record
  own = part_at parts node

  -- the records for another node
  link_total : (other : ℕ) (j rest : List Record) → other < length parts → other ≢ node → j ≡ part_at parts other ++ rest → counted (shipper_seat node other) own + counted (worker_seat node other) own ≡ first_letters (shipper_seat other node) 5 j + 5
  link_total other j rest there ne is =
      let out = holds.links node within other there ne in
      let back = holds.links other there node within (λ e. ne (sym e)) in
      let shipped : counted (shipper_seat node other) own ≡ 5 = ap length out.ships in
      let heard : counted (worker_seat node other) own ≡ length (found (sent_one (shipper_seat other node)) (part_at parts other)) = ap length back.same ∙ length-map (found (sent_one (shipper_seat other node)) (part_at parts other)) Hear in
      let five : counted (shipper_seat other node) (part_at parts other) ≡ 5 = ap length back.ships in
      let sent : first_letters (shipper_seat other node) 5 j ≡ length (found (sent_one (shipper_seat other node)) (part_at parts other)) = ap (first_letters (shipper_seat other node) 5) is ∙ letters (shipper_seat other node) 5 (part_at parts other) rest five in
      omega (arith, shipped, heard, sent)

  -- the records for these nodes
  abbrev for_node : ℕ → ℕ
  for_node other = total (λ s. counted s own) (seats_for node other)

  for_other : (other : ℕ) (j rest : List Record) → other < length parts → j ≡ part_at parts other ++ rest → for_node other ≡ cond (eqb other node) 0 (first_letters (shipper_seat other node) 5 j + 5)
  unfolding total
  for_other other j rest there is = elim (cases_eq other node) [
    | inl e ↦
        let same : eqb other node ≡ true = eq-eqb other node e in
        ap (λ b. total (λ s. counted s own) (cond b [] (shipper_seat node other ∷ worker_seat node other ∷ []))) same ∙ sym (ap (λ b. cond b 0 (first_letters (shipper_seat other node) 5 j + 5)) same)
    | inr ne ↦
        let apart : eqb other node ≡ false = ne_eqb other node ne in
        ap (λ b. total (λ s. counted s own) (cond b [] (shipper_seat node other ∷ worker_seat node other ∷ []))) apart ∙ both (counted (shipper_seat node other) own) (counted (worker_seat node other) own) (first_letters (shipper_seat other node) 5 j + 5) (link_total other j rest there ne is)
        ∙ sym (ap (λ b. cond b 0 (first_letters (shipper_seat other node) 5 j + 5)) apart)
  ]
    where
      both : (a b c : ℕ) → a + b ≡ c → a + (b + 0) ≡ c
      both a b c h = omega (arith, h)

  links_total : (k : ℕ) (js : List (List Record)) → k + length js ≤ length parts → ((i : ℕ) → i < length js → (rest : List Record) × (part_at js i ≡ part_at parts (k + i) ++ rest)) → total for_node (numbers_from k (length js)) ≡ link_records node k js
  unfolding total
  links_total k [] fits each = refl
  links_total k (j ∷ js) fits each =
      let first = each 0 (omega arith) in
      let zeroth : k + 0 ≡ k = omega arith in
      let here = for_other k j first.0 (omega (arith, fits)) (first.1 ∙ ap (λ i. part_at parts i ++ first.0) zeroth) in
      let next : suc k ≡ k + 1 = omega arith in
      let later = links_total (k + 1) js (omega (arith, fits)) (λ i lt. let r = each (suc i) (omega (arith, lt)) in (r.0, r.1 ∙ ap (λ n. part_at parts n ++ r.0) (shifted k i))) in
      (λ t. here t + (ap (λ n. total for_node (numbers_from n (length js))) next ∙ later) t)
    where
      shifted : (k i : ℕ) → k + suc i ≡ (k + 1) + i
      shifted k i = omega arith

  -- ---- all
  abbrev of_seats : List ℕ → ℕ
  of_seats seats = total (λ s. counted s own) seats

  pub part_total : (js : List (List Record)) (nodes others : ℕ) → nodes ≡ suc others → nodes ≡ length parts → nodes ≡ length js → AreOfSeats nodes own → HasCallers phase → ((i : ℕ) → i < length js → (rest : List Record) × (part_at js i ≡ part_at parts i ++ rest))
      → length own ≡ length (found (call_one node) phase.lines.items) + link_records node 0 js
  unfolding total
  part_total js nodes others more parts_are journals_are seats callers each =
      let lines = phase.lines.items in
      let inside : node ≤ others = omega (arith, within, more, parts_are) in
      let last : 2 * nodes + 2 ≡ 2 * others + 4 = omega (arith, more) in
      let all : length own ≡ of_seats (numbers_from 1 (2 * nodes + 2)) = by_seats (2 * nodes + 2) own seats in
      let in_order : of_seats (numbers_from 1 (2 * nodes + 2)) ≡ of_seats (seats_of nodes node) =
      ap (λ m. of_seats (numbers_from 1 m)) last ∙ ap of_seats (sym (seats_in_order others node inside)) ∙ ap (λ m. of_seats (seats_of m node)) (sym more) in
      let linked : of_seats (flat_map (seats_for node) (numbers_from 0 nodes)) ≡ link_records node 0 js =
      total-flat_map (λ s. counted s own) (seats_for node) (numbers_from 0 nodes) ∙ ap (λ m. total for_node (numbers_from 0 m)) journals_are
      ∙ links_total 0 js (omega (arith, parts_are, journals_are)) (λ i lt. let r = each i lt in (r.0, r.1 ∙ ap (λ n. part_at parts n ++ r.0) (from_zero i))) in
      let asked_of : (caller : ℕ) → 1 ≤ caller → caller ≤ 4 → counted caller own ≡ asks node caller lines = λ caller low high. ap length (holds.asked node within caller low high) in
      let first = asked_of 1 (omega arith) (omega arith) in
      let second = asked_of 2 (omega arith) (omega arith) in
      let third = asked_of 3 (omega arith) (omega arith) in
      let fourth = asked_of 4 (omega arith) (omega arith) in
      omega (arith, all, in_order, linked, first, second, third, fourth, callers_total node lines callers)
    where
      from_zero : (i : ℕ) → i ≡ 0 + i
      from_zero i = omega arith
