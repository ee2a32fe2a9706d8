-- Facts about results and lists that the standard library lacks.
use Rattle.std.specs.Prelude.{◌≡◌, Bool, ◌||◌, List, [], ◌∷◌, Result, OnErr, map as list_map, refl}
use Rattle.std.proofs.Common.{ap, ◌∙◌, arith}
use Rattle.std.specs.List.{flat_map, list_any}
use Rattle.std.proofs.lemmas.List.Folds.{list_any-append}

-- what holds anyway holds after a failure
pub fails_so : {T E P : Type 0} (r : Result T E) → P → OnErr r P
fails_so r p = grind arith

pub list_any-list_map : {X Y : Type 0} (p : Y → Bool) (f : X → Y) (xs : List X) → list_any p (list_map f xs) ≡ list_any (λ x. p (f x)) xs
list_any-list_map p f [] = refl
list_any-list_map p f (x ∷ xs) = ap (λ b. p (f x) || b) (list_any-list_map p f xs)

pub list_any-flat_map : {X Y : Type 0} (p : Y → Bool) (f : X → List Y) (xs : List X) → list_any p (flat_map f xs) ≡ list_any (λ x. list_any p (f x)) xs
list_any-flat_map p f [] = refl
list_any-flat_map p f (x ∷ xs) = list_any-append p (f x) (flat_map f xs) ∙ ap (λ b. list_any p (f x) || b) (list_any-flat_map p f xs)
