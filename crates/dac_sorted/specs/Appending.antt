-- When a key can be appended to a sorted list: it is above all keys there.
use Rattle.std.specs.Prelude.{Bool, List}
use Rattle.std.specs.declared.cmp.Ordering.{Ordering}
use Rattle.std.specs.Ordering.{is_lt}
use Rattle.std.specs.List.{list_all}

-- whether the key is above each key of the list
abbrev pub is_above_keys : {K : Type 0} → (K → K → Ordering) → List K → K → Bool
is_above_keys R ks k = list_all (λ x. is_lt (R x k)) ks

-- whether the key is above that of each entry
abbrev pub is_above_entries : {K X : Type 0} → (K → K → Ordering) → List (K × X) → K → Bool
is_above_entries {K} {X} R es k = list_all (λ (e : K × X). is_lt (R e.0 k)) es
