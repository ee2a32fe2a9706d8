-- Pieces of a state: lattices to which each operation adds a delta. Lists represent sets of operations; order and
-- repetition don't matter.
use Rattle.std.specs.Prelude.{◌≡◌, ◌⊎◌, List, [], ◌∷◌, ◌++◌}
use Rattle.dac_origins.specs.declared.dot.Dot.{Dot}

-- the operation, a dot and an act, is in the list
abbrev pub IsGivenIn : {A : Type 0} → Dot × A → List (Dot × A) → Type 0
IsGivenIn o [] = ⊥
IsGivenIn o (p ∷ ps) = (o ≡ p) ⊎ IsGivenIn o ps

-- each operation of os is in ps
abbrev pub AreGivenIn : {A : Type 0} → List (Dot × A) → List (Dot × A) → Type 0
AreGivenIn {A} os ps = (o : Dot × A) → IsGivenIn o os → IsGivenIn o ps

-- no two different operations in the list have the same dot
abbrev pub DotsDetermineActs : {A : Type 0} → List (Dot × A) → Type 0
DotsDetermineActs {A} os = (o p : Dot × A) → IsGivenIn o os → IsGivenIn p os → o.0 ≡ p.0 → o ≡ p

-- each act fits its dot, and no two different operations have the same dot
pub record AreOperations {A : Type 0} (fits : Dot → A → Type 0) (os : List (Dot × A)) : Type 0 where
  pub fit : (o : Dot × A) → IsGivenIn o os → fits o.0 o.1
  pub agree : DotsDetermineActs os

-- A piece: the meaning of operations is a statement about all of them that holds of at most one value, and adding an
-- operation joins its delta (as in delta-state CRDTs).
pub record IsPiece {V A : Type 0} (is_value : V → Type 0) (join : V → V → V) (bottom : V) (fits : Dot → A → Type 0)
    (delta : Dot → A → V) (means : List (Dot × A) → V → Type 0) : Type 0 where
  pub delta_value : (d : Dot) (a : A) → is_value (delta d a)
  pub start : means [] bottom
  pub step : (os : List (Dot × A)) (o : Dot × A) (v : V) → is_value v → AreOperations fits (o ∷ os) → means os v
      → means (o ∷ os) (join v (delta o.0 o.1))
  pub one : (os : List (Dot × A)) (v w : V) → is_value v → is_value w → means os v → means os w → v ≡ w

-- the joined deltas of operations
abbrev pub joined : {V A : Type 0} → (V → V → V) → V → (Dot → A → V) → List (Dot × A) → V
joined join bottom delta [] = bottom
joined join bottom delta (o ∷ os) = join (joined join bottom delta os) (delta o.0 o.1)

module _ {V A : Type 0} (is_value : V → Type 0) (join : V → V → V) (fits : Dot → A → Type 0) (means : List (Dot × A) → V → Type 0) where
  -- the join of two meanings is the meaning of all the operations
  abbrev pub JoinsAreTogether : Type 0
  JoinsAreTogether = (os ps : List (Dot × A)) (v w : V) → is_value v → is_value w → AreOperations fits (os ++ ps)
      → means os v → means ps w → means (os ++ ps) (join v w)

  -- lists of the same operations have the same meaning, whatever the order and repetition
  abbrev pub OrderAndRepeatsAreNothing : Type 0
  OrderAndRepeatsAreNothing = (os ps : List (Dot × A)) (v : V) → is_value v → AreOperations fits os → AreGivenIn os ps
      → AreGivenIn ps os → means os v → means ps v

-- the joined deltas of operations are their meaning
abbrev pub DeltasAreMeanings : {V A : Type 0} → (V → V → V) → V → (Dot → A → Type 0) → (Dot → A → V)
    → (List (Dot × A) → V → Type 0) → Type 0
DeltasAreMeanings {A = A} join bottom fits delta means = (os : List
    (Dot × A)) → AreOperations fits os → means os (joined join bottom delta os)
