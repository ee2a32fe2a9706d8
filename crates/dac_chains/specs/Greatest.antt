-- For each key the greatest value that operations report, in a total order of values.
use Rattle.std.specs.Prelude.{◌≡◌, List, Option, None, Some}
use Rattle.std.specs.declared.cmp.Ordering.{Ordering}
use Rattle.std.specs.Ordering.{ord_max}
use Rattle.std.specs.FinMap as map
use Rattle.dac_lattice.specs.Dot.{Dot}
use Rattle.dac_lattice.specs.Chains.{IsAtMost}
use Rattle.dac_lattice.specs.Lattices.{IsOptionBelow, join_options}
use Rattle.dac_lattice.specs.Entries.{merge_entries}
use Rattle.dac_lattice.specs.Pieces.{IsGivenIn}

-- an operation of the list reports the value for the key; `said` is the key and value that an operation reports, if any
abbrev pub IsSaid : {K T A : Type 0} → (Dot → A → Option (K × T)) → List (Dot × A) → K → T → Type 0
IsSaid {A = A} said os k v = (o : Dot × A) × (IsGivenIn o os × (said o.0 o.1 ≡ Some (k, v)))

-- the greatest value that satisfies P, or None if none does
abbrev pub IsGreatest : {T : Type 0} → (T → T → Ordering) → (T → Type 0) → Option T → Type 0
IsGreatest {T} cmp P None = (v : T) → ¬ (P v)
IsGreatest {T} cmp P (Some v) = P v × ((w : T) → P w → IsAtMost cmp w v)

module _ {K T : Type 0} {R : K → K → Ordering} (cmp : T → T → Ordering) where
  -- each key has the greatest value reported for it
  abbrev pub AreGreatest : {A : Type 0} → (Dot → A → Option (K × T)) → List (Dot × A) → map.FinMap R T → Type 0
  AreGreatest said os m = (k : K) → IsGreatest cmp (IsSaid said os k) (map.get m k)

  -- at no key is the first map's value greater than the second's; an absent one is least
  abbrev pub AreNotAbove : map.FinMap R T → map.FinMap R T → Type 0
  AreNotAbove s t = (k : K) → IsOptionBelow (IsAtMost cmp) (map.get s k) (map.get t k)

  -- the union of both maps, with the greater value at each common key
  unfoldable pub greater : map.FinMap R T → map.FinMap R T → map.FinMap R T
  greater s t = map.from_entries (merge_entries R (λ _. join_options (ord_max cmp)) (map.entries s) (map.entries t))

-- the report of one operation, as a map
abbrev pub alone : {K T : Type 0} {R : K → K → Ordering} → Option (K × T) → map.FinMap R T
alone None = map.empty
alone (Some e) = map.insert map.empty e.0 e.1
