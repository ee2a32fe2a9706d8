-- One map below another, by one walk through both.
use Rattle.std.specs.Prelude.{◌≡◌, true, List, Option}
use Rattle.std.specs.declared.cmp.Ordering.{Ordering}
use Rattle.std.specs.FinMap.{find}
use Rattle.dac_origins.specs.Dots.{Dots}
use Rattle.dac_sorted.specs.Appending.{is_above_entries}
use Rattle.dac_store.specs.DotMaps.{store_at}

-- the map's store at the key is below the other map's
abbrev pub IsBelowAt : {K S : Type 0} → (K → K → Ordering) → S → (S → Dots → S → Dots → Type 0) → List (K × S) → Dots → Dots
    → K → Option S → Type 0
IsBelowAt R nothing below m c d k v = below (store_at nothing (find R k m)) c (store_at nothing v) d

-- both lists have the same values at each key above those of the part
abbrev pub HasLaterKeys : {K X : Type 0} → (K → K → Ordering) → List (K × X) → List (K × X) → List (K × X) → Type 0
HasLaterKeys {K} R part old new = (k : K) → is_above_entries R part k ≡ true → find R k new ≡ find R k old
