-- Filters of the dots of stores.
use Rattle.std.specs.Prelude.{◌≡◌, ℕ, Bool, true, List, Option, IfSome}
use Rattle.std.specs.Borrow.{Bor}
use Rattle.dac_origins.specs.declared.dot.Dot.{Dot}
use Rattle.dac_dots.specs.DotFilters.{may_have}
use Rattle.dac_sorted.specs.Digests.{SaysAll}
use Rattle.dac_store.specs.declared.digest.StoreFilter.{StoreFilter}

-- the slot of each dot of the store is set
abbrev pub MayHold : {S : Type 0} → (S → Dot → Bool) → List ℕ → S → Type 0
MayHold has slots s = (x : Dot) → has s x ≡ true → may_have slots x ≡ true

-- the filter, if any, holds the dots of each entry
abbrev pub IsTold : {K S : Type 0} → (S → Dot → Bool) → Option (Bor StoreFilter) → List (K × S) → Type 0
IsTold has digest m = IfSome digest (λ d. SaysAll (λ _ s. MayHold has d.now.filter.slots s) m)
