-- Lists by key: the keys of a sorted list, each with its value.
use Rattle.std.specs.Prelude.{List, map as list_map}
use Rattle.std.specs.declared.cmp.Ordering.{Ordering}
use Rattle.std.specs.FinSet as set
use Rattle.dac_origins.specs.InOrder.{in_order}

-- each key with its value
abbrev pub by_key : {K S : Type 0} → (K → S) → List K → List (K × S)
by_key {K = K} at ks = list_map (λ (k : K). (k, at k)) ks

-- the keys of a list, sorted, each once
abbrev pub keys_in : {K X : Type 0} → (K → K → Ordering) → (X → K) → List X → List K
keys_in R key xs = in_order (set.from_list {R = R} (list_map key xs))
