-- The events and results of lines, line by line.
use Rattle.std.proofs.Common.{◌≡◌, ℕ, zero, suc, ◌+◌, ◌<◌, ◌≤◌, List, [], ◌∷◌, ◌++◌, length, take, get_or, Option, sym, ap, ◌∙◌, subst, arith, append-nil, append_assoc, take_all}
use Rattle.dac_phases.specs.laws.Common.{take_more, found, found_more}
use Rattle.std.specs.List.{AllZip, flat_map, zip}
use Rattle.std.proofs.lemmas.List.Concat.{flat_map-append}
use Rattle.std.proofs.lemmas.Slice.Zip.{all_zipped_more, length-zip, get_or-zip}
use Rattle.dac_workers.specs.laws.Found.{listed}

-- one more value found, after a list
pub found_on : {A B : Type 0} (b : List B) (f : A → Option B) (xs : List A) (i : ℕ) (x : A) (o : Option B) → i < length xs → x ≡ get_or xs i x → f x ≡ o → b ++ found f (take (i + 1) xs) ≡ (b ++ found f (take i xs)) ++ listed o
found_on b f xs i x o within at is = ap (λ l. b ++ l) (found_more f xs i x o within at is) ∙ sym (append_assoc b (found f (take i xs)) (listed o))

-- the pieces of one more element
pub flat_more : {X A : Type 0} (f : X → List A) (xs : List X) (i : ℕ) (x : X) → i < length xs → x ≡ get_or xs i x → flat_map f (take (i + 1) xs) ≡ flat_map f (take i xs) ++ f x
flat_more f xs i x within at =
    ap (flat_map f) (take_more xs i x within) ∙ flat_map-append f (take i xs) (get_or xs i x ∷ []) ∙ ap (λ l. flat_map f (take i xs) ++ l) (append-nil (f (get_or xs i x)))
    ∙ ap (λ y. flat_map f (take i xs) ++ f y) (sym at)

-- ---- two lists, side by side
pub zip_within : {A B : Type 0} (xs : List A) (ys : List B) (i : ℕ) → i < length xs → i < length ys → i < length (zip xs ys)
zip_within xs ys i left right = omega (arith, length-zip xs ys)

pub zip_at : {A B : Type 0} (xs : List A) (ys : List B) (i : ℕ) (x : A) (y : B) → i < length xs → i < length ys → x ≡ get_or xs i x → y ≡ get_or ys i y → (x, y) ≡ get_or (zip xs ys) i (x, y)
zip_at {A} {B} xs ys i x y left right at on =
    let d : A × B = (x, y) in
    let pair : d ≡ (get_or xs i x, get_or ys i y) = λ j. (at j, on j) in
    pair ∙ sym (get_or-zip xs ys i d left right)

pub zip_all : {A B : Type 0} (xs : List A) (ys : List B) (n : ℕ) → length xs ≤ n → take n (zip xs ys) ≡ zip xs ys
zip_all xs ys n all = take_all n (zip xs ys) (omega (arith, length-zip xs ys))

pub all_zip_at : {A B : Type 0} (R : A → B → Type 0) (xs : List A) (ys : List B) (i : ℕ) (x : A) (y : B) → AllZip R xs ys → i < length xs → x ≡ get_or xs i x → y ≡ get_or ys i y → R x y
all_zip_at R [] ys i x y all within at on = absurd (omega (arith, within))
all_zip_at R (a ∷ xs) [] i x y all within at on = absurd all
all_zip_at {A} {B} R (a ∷ xs) (b ∷ ys) zero x y all within at on = let left : A → Type 0 = λ v. R v y in let right : B → Type 0 = λ w. R a w in subst left (sym at) (subst right (sym on) all.0)
all_zip_at R (a ∷ xs) (b ∷ ys) (suc i) x y all within at on = let less : i < length xs = omega (arith, within) in all_zip_at R xs ys i x y all.1 less at on

pub all_zip_next : {A B : Type 0} (R : A → B → Type 0) (xs : List A) (ys : List B) (i : ℕ) (x : A) (y : B) → i < length xs → i < length ys → x ≡ get_or xs i x → y ≡ get_or ys i y → AllZip R (take i xs) (take i ys) → R x y → AllZip R (take (i + 1) xs) (take (i + 1) ys)
all_zip_next {A} {B} R xs ys i x y left right at on all here =
    let first : take (i + 1) xs ≡ take i xs ++ x ∷ [] = take_more xs i x left ∙ ap (λ v. take i xs ++ v ∷ []) (sym at) in
    let second : take (i + 1) ys ≡ take i ys ++ y ∷ [] = take_more ys i y right ∙ ap (λ v. take i ys ++ v ∷ []) (sym on) in
    let P : List A → Type 0 = λ v. AllZip R v (take (i + 1) ys) in
    let Q : List B → Type 0 = λ w. AllZip R (take i xs ++ x ∷ []) w in
    subst P (sym first) (subst Q (sym second) (all_zipped_more R (take i xs) (take i ys) x y all here))

-- from the numbers below 4 to those from 1 to 4
pub from_one : (P : ℕ → Type 0) → ((k : ℕ) → k < 4 → P (k + 1)) → (n : ℕ) → 1 ≤ n → n ≤ 4 → P n
from_one P each zero low high = absurd (omega (arith, low))
from_one P each (suc k) low high = let less : k < 4 = omega (arith, high) in let on : k + 1 ≡ suc k = omega arith in subst P on (each k less)
