-- Maps to greatest values, as the lists of entries that store them.
use Rattle.std.specs.Prelude.{List, map as list_map}
use Rattle.std.specs.declared.cmp.Ordering.{Ordering}
use Rattle.std.specs.FinMap as map
use Rattle.dac_lattice.specs.declared.chain.Max.{Max}

-- the entries with their values unwrapped
abbrev pub unwrapped : {K T : Type 0} → List (K × Max T) → List (K × T)
unwrapped {K} {T} es = list_map (λ (e : K × Max T). (e.0, e.1.value)) es

-- the map stored as these entries
abbrev pub kept : {K T : Type 0} {R : K → K → Ordering} → List (K × Max T) → map.FinMap R T
kept es = map.from_entries (unwrapped es)
