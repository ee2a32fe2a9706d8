-- Copying a list element by element.
use Rattle.std.proofs.Common.{◌≡◌, ℕ, ◌+◌, ◌<◌, List, [], ◌∷◌, ◌++◌, length, get_or, take, sym, ap, ◌∙◌, arith, append_assoc}
use Rattle.std.proofs.lemmas.List.{append-nil, take_more}

-- one more element is copied; those so far are a prefix of the list
pub copied_more : {X : Type 0} (xs : List X) (i : ℕ) (done new : List X) (x y : X) → i < length xs → x ≡ get_or xs i x → done ≡ take i xs → y ≡ x → new ≡ done ++ y ∷ [] → new ≡ take (i + 1) xs
copied_more xs i done new x y h is so_far same pushed = pushed ∙ (ap (λ ds. ds ++ y ∷ []) so_far ∙ (ap (λ z. take i xs ++ z ∷ []) (same ∙ is) ∙ sym (take_more xs i x h)))

-- one more element is copied; the rest of the list remains
pub copied_next : {X : Type 0} (done new left rest all : List X) (x y : X) → left ≡ x ∷ rest → done ++ left ≡ all → y ≡ x → new ≡ done ++ y ∷ [] → new ++ rest ≡ all
copied_next done new left rest all x y next so_far same pushed =
    ap (λ ds. ds ++ rest) pushed ∙ (append_assoc done (y ∷ []) rest ∙ (ap (λ z. done ++ z ∷ rest) same ∙ (ap (λ l. done ++ l) (sym next) ∙ so_far)))

-- if nothing remains, all elements are copied
pub copied_whole : {X : Type 0} (done left all : List X) → length left ≡ 0 → done ++ left ≡ all → done ≡ all
copied_whole done [] all none so_far = sym (append-nil done) ∙ so_far
copied_whole done (x ∷ left) all none so_far = absurd (omega arith)
