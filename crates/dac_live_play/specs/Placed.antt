-- Concatenated texts of two lists, place by place.
use Rattle.std.specs.Prelude.{ℕ, ◌+◌, List, [], ◌∷◌, ◌++◌}

-- the texts of each place that both lists have, in order; places count from place
abbrev pub placed_text : {A B : Type 0} → (ℕ → A → B → List ℕ) → ℕ → List A → List B → List ℕ
placed_text text place [] ys = []
placed_text text place (x ∷ xs) [] = []
placed_text text place (x ∷ xs) (y ∷ ys) = text place x y ++ placed_text text (place + 1) xs ys
