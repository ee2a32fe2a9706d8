-- The merge of two maps in steps: the merged entries so far, and the remaining ones of each.
use Rattle.std.specs.Prelude.{◌≡◌, true, List, [], ◌∷◌, ◌++◌, Option, None, Some}
use Rattle.std.specs.declared.cmp.Ordering.{Ordering}
use Rattle.std.specs.declared.cmp.Ordering.TheVariants.{Less, Equal}
use Rattle.dac_lattice.specs.Entries.{Combine, merge_entries, merge_entry}
use Rattle.dac_sorted.specs.Appending.{is_above_entries}

module _ {K X : Type 0} (R : K → K → Ordering) where
  -- each key is below the first one of the other list
  abbrev pub AreBefore : List (K × X) → List (K × X) → Type 0
  AreBefore part [] = Unit {0}
  AreBefore part (y ∷ ys) = is_above_entries R part y.0 ≡ true

  -- the first entry isn't at this key
  abbrev pub IsNotAt : K → List (K × X) → Type 0
  IsNotAt key [] = Unit {0}
  IsNotAt key (y ∷ ys) = R y.0 key ≡ Equal → ⊥

  -- no entry of the list, which is in order, is below this key
  abbrev pub IsNotBelow : K → List (K × X) → Type 0
  IsNotBelow key [] = Unit {0}
  IsNotBelow key (y ∷ ys) = R y.0 key ≡ Less → ⊥

  -- the first entry is taken if it is at this key
  abbrev pub IsTakenAt : K → List (K × X) → Option X → List (K × X) → Type 0
  IsTakenAt key ys None zs = (zs ≡ ys) × IsNotAt key ys
  IsTakenAt key ys (Some v) zs = (k : K) × (R k key ≡ Equal) × (ys ≡ (k, v) ∷ zs)

  module _ (f : Combine K X) where
    -- all entries of the second map below the key are merged
    pub record IsMergedBelow (key : K) (old ys new zs : List (K × X)) : Type 0 where
      pub merged : (x : K × X) (rest : List (K × X) → List (K × X)) → x.0 ≡ key
          → new ++ merge_entry R f x rest zs ≡ old ++ merge_entry R f x rest ys
      pub past : IsNotBelow key zs

    -- the entry is merged
    abbrev pub IsMergedWith : K × X → List (K × X) → List (K × X) → List (K × X) → List (K × X) → Type 0
    IsMergedWith x old ys new zs = (rest : List (K × X) → List (K × X)) → new ++ rest zs ≡ old ++ merge_entry R f x rest ys

    -- the part's entries are merged
    abbrev pub IsMergedPart : List (K × X) → List (K × X) → List (K × X) → List (K × X) → List (K × X) → Type 0
    IsMergedPart part old ys new zs = (xs : List (K × X)) → new ++ merge_entries R f xs zs ≡ old ++ merge_entries R f (part ++ xs) ys

    -- the merge leaves the part unchanged, and inserts nothing into it
    abbrev pub ArePassed : List (K × X) → List (K × X) → List (K × X) → Type 0
    ArePassed part ys zs = (xs : List (K × X)) → part ++ merge_entries R f xs zs ≡ merge_entries R f (part ++ xs) ys
