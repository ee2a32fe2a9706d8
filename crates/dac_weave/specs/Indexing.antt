-- A hash table of numbers.
use Rattle.std.specs.Prelude.{◌≡◌, ◌≢◌, ◌⊎◌, ◌==◌, ℕ, ◌%◌, List, [], ◌∷◌, ◌++◌, length, filter, not, Option, Some, None}
use Rattle.std.specs.Global.{Vec}
use Rattle.std.specs.List.{slice_get}

abbrev pub numbers_of : Option (Vec ℕ) → List ℕ
numbers_of None = []
numbers_of (Some numbers) = numbers.items

-- the numbers in the bucket of a label
abbrev pub bucket_of : List (Vec ℕ) → ℕ → List ℕ
bucket_of lists label = numbers_of (slice_get lists (label % length lists))

-- k is in the label's bucket
abbrev pub IsFiledIn : List (Vec ℕ) → ℕ → ℕ → Type 0
IsFiledIn lists label k = (i : ℕ) × (slice_get (bucket_of lists label) i ≡ Some k)

-- no bucket changes
abbrev pub IsKept : List (Vec ℕ) → List (Vec ℕ) → Type 0
IsKept old new = (label : ℕ) → bucket_of new label ≡ bucket_of old label

-- number is filed under label, last in its bucket, every other entry stays, and no entry is added besides
pub record Files (old : List (Vec ℕ)) (label : ℕ) (number : ℕ) (new : List (Vec ℕ)) : Type 0 where
  pub here : IsFiledIn new label number
  pub kept : (q k : ℕ) → IsFiledIn old q k → IsFiledIn new q k
  pub only : (q k : ℕ) → IsFiledIn new q k → IsFiledIn old q k ⊎ (k ≡ number)
  pub last : (q : ℕ) → q % length old ≡ label % length old → bucket_of new q ≡ bucket_of old q ++ number ∷ []
  pub apart : (q : ℕ) → q % length old ≢ label % length old → bucket_of new q ≡ bucket_of old q

-- a list without n
abbrev pub without : ℕ → List ℕ → List ℕ
without n xs = filter (λ x. not (x == n)) xs

-- the number is removed from the bucket of a label
pub record Unfiles (old : List (Vec ℕ)) (label : ℕ) (number : ℕ) (new : List (Vec ℕ)) : Type 0 where
  pub here : (q : ℕ) → q % length old ≡ label % length old → bucket_of new q ≡ without number (bucket_of old q)
  pub apart : (q : ℕ) → q % length old ≢ label % length old → bucket_of new q ≡ bucket_of old q

-- The table indexes xs: it holds only positions of xs, and finds an equal of each item under its label.
pub record Finds {X : Type 0} (label_of : X → ℕ) (xs : List X) (lists : List (Vec ℕ)) : Type 0 where
  pub within : (q k : ℕ) → IsFiledIn lists q k → (x : X) × (slice_get xs k ≡ Some x)
  pub found : (i : ℕ) (x : X) → slice_get xs i ≡ Some x
      → (k : ℕ) × (IsFiledIn lists (label_of x) k × (slice_get xs k ≡ Some x))
