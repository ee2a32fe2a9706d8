-- The seats of a node are numbered in order.
use Rattle.std.proofs.Common.{◌≡◌, ◌≤◌, ◌<◌, ◌+◌, ◌*◌, ℕ, zero, suc, Bool, true, false, List, [], ◌∷◌, ◌++◌, flat_map, eqb, ltb, if◌then◌else◌, refl, ap, ◌∙◌, arith}
use Rattle.dac_phases.specs.laws.Common.{eq-eqb, shipper_seat, worker_seat}
use Rattle.std.proofs.lemmas.Bool.{ne_eqb, lt-ltb, le-ltb}
use Rattle.dac_phases.specs.Seating.{numbers_from, seats_for, AreInOrder}

-- the seats for a node, unless it is the node itself
abbrev chosen : List ℕ → Bool → List ℕ
chosen two own = if own then [] else two

-- a node has no seats for itself
own : (n : ℕ) → seats_for n n ≡ []
own n = ap (chosen (shipper_seat n n ∷ worker_seat n n ∷ [])) (eq-eqb n n refl)

-- the seats for a node before it
before : (me k : ℕ) → k < me → seats_for me k ≡ (2 * k + 5) ∷ (2 * k + 6) ∷ []
before me k less =
    let other : eqb k me ≡ false = ne_eqb k me (λ same. omega (arith, less, same)) in
    let under : ltb k me ≡ true = lt-ltb k me less in
    let seat : shipper_seat me k ≡ 2 * k + 5 = ap (λ (b : Bool). if b then 2 * k + 5 else 2 * k + 3) under in
    let more : 2 * k + 5 + 1 ≡ 2 * k + 6 = omega arith in
    let next : worker_seat me k ≡ 2 * k + 6 = ap (λ (s : ℕ). s + 1) seat ∙ more in
    ap (chosen (shipper_seat me k ∷ worker_seat me k ∷ [])) other ∙ (λ i. seat i ∷ next i ∷ [])

-- the seats for a node after it
after : (me k : ℕ) → me < k → seats_for me k ≡ (2 * k + 3) ∷ (2 * k + 4) ∷ []
after me k less =
    let other : eqb k me ≡ false = ne_eqb k me (λ same. omega (arith, less, same)) in
    let over : ltb k me ≡ false = le-ltb k me (omega (arith, less)) in
    let seat : shipper_seat me k ≡ 2 * k + 3 = ap (λ (b : Bool). if b then 2 * k + 5 else 2 * k + 3) over in
    let more : 2 * k + 3 + 1 ≡ 2 * k + 4 = omega arith in
    let next : worker_seat me k ≡ 2 * k + 4 = ap (λ (s : ℕ). s + 1) seat ∙ more in
    ap (chosen (shipper_seat me k ∷ worker_seat me k ∷ [])) other ∙ (λ i. seat i ∷ next i ∷ [])

-- the seats for all nodes after it, from k
all_after : (me k n : ℕ) → me < k → flat_map (seats_for me) (numbers_from k n) ≡ numbers_from (2 * k + 3) (2 * n)
all_after me k zero less = let none : 0 ≡ 2 * 0 = omega arith in ap (numbers_from (2 * k + 3)) none
all_after me k (suc n) less =
    let further : me < suc k = omega (arith, less) in
    let here = after me k less in
    let rest = all_after me (suc k) n further in
    let second : 2 * k + 4 ≡ suc (2 * k + 3) = omega arith in
    let third : 2 * suc k + 3 ≡ suc (suc (2 * k + 3)) = omega arith in
    let two : suc (suc (2 * n)) ≡ 2 * suc n = omega arith in
    (λ i. here i ++ rest i) ∙ (λ i. (2 * k + 3) ∷ second i ∷ numbers_from (third i) (2 * n)) ∙ ap (numbers_from (2 * k + 3)) two

-- the seats for all nodes from k, where the node itself is k or later
all_from : (distance k n me : ℕ) → me ≡ distance + k → distance ≤ n → flat_map (seats_for me) (numbers_from k (suc n)) ≡ numbers_from (2 * k + 5) (2 * n)
all_from zero k n me at inside =
    let same : me ≡ k = omega (arith, at) in
    let further : me < suc k = omega (arith, at) in
    let none : seats_for me k ≡ [] = ap (λ (m : ℕ). seats_for m k) same ∙ own k in
    let rest = all_after me (suc k) n further in
    let third : 2 * suc k + 3 ≡ 2 * k + 5 = omega arith in
    (λ i. none i ++ rest i) ∙ ap (λ (s : ℕ). numbers_from s (2 * n)) third
all_from (suc distance) k zero me at inside = absurd (omega (arith, inside))
all_from (suc distance) k (suc n) me at inside =
    let less : k < me = omega (arith, at) in
    let on : me ≡ distance + suc k = omega (arith, at) in
    let within : distance ≤ n = omega (arith, inside) in
    let here = before me k less in
    let rest = all_from distance (suc k) n me on within in
    let second : 2 * k + 6 ≡ suc (2 * k + 5) = omega arith in
    let third : 2 * suc k + 5 ≡ suc (suc (2 * k + 5)) = omega arith in
    let two : suc (suc (2 * n)) ≡ 2 * suc n = omega arith in
    (λ i. here i ++ rest i) ∙ (λ i. (2 * k + 5) ∷ second i ∷ numbers_from (third i) (2 * n)) ∙ ap (numbers_from (2 * k + 5)) two

pub seats_in_order : AreInOrder
seats_in_order others me inside =
    let four : suc (suc (suc (suc (2 * others)))) ≡ 2 * others + 4 = omega arith in
    let first : 2 * 0 + 5 ≡ 5 = omega arith in
    let at : me ≡ me + 0 = omega arith in
    ap (λ (l : List ℕ). 1 ∷ 2 ∷ 3 ∷ 4 ∷ l) (all_from me 0 others me at inside ∙ ap (λ (s : ℕ). numbers_from s (2 * others)) first) ∙ ap (numbers_from 1) four
