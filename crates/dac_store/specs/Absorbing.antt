-- When a join changes one entry alone: the other side has at most this key, and its context no dot of the stores at others.
use Rattle.std.specs.Prelude.{◌≡◌, Bool, List, Option, None, Some}
use Rattle.std.specs.declared.cmp.Ordering.{Ordering}
use Rattle.std.specs.declared.cmp.Ordering.TheVariants.{Equal}
use Rattle.dac_origins.specs.Dots.{Dots}
use Rattle.dac_origins.specs.declared.dot.Dot.{Dot}
use Rattle.dac_lattice.specs.Search.{AtEachEntry}
use Rattle.dac_store.specs.Stores.{IsUnheard}

module _ {K S : Type 0} (R : K → K → Ordering) (has : S → Dot → Bool) (key : K) (d : Dots) where
  -- unless the store is at this key, the context has none of its dots
  abbrev pub IsOtherUnheard : K → Option S → Type 0
  IsOtherUnheard k None = Unit {0}
  IsOtherUnheard k (Some s) = (R k key ≡ Equal → ⊥) → IsUnheard (has s) d

  -- the context has no dot of the stores at other keys
  abbrev pub AreOthersUnheard : List (K × S) → Type 0
  AreOthersUnheard m = AtEachEntry IsOtherUnheard m
