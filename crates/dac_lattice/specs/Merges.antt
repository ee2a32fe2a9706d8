-- One step of the merge of two maps: the remaining entries with the lowest key, and their combination.
use Rattle.std.specs.Prelude.{List, Option, None, Some}
use Rattle.std.specs.declared.cmp.Ordering.{Ordering}
use Rattle.std.specs.FinMap.Entries.{by_order}
use Rattle.dac_lattice.specs.Entries.{Combine, keep}

-- among the next entries of both maps those with the lowest key
abbrev pub lowest_of : {K X : Type 0} → (K → K → Ordering) → Option (K × X) → Option (K × X)
    → Option (K × X) × Option (K × X)
lowest_of R None y = (None, y)
lowest_of R (Some x) None = (Some x, None)
lowest_of R (Some x) (Some y) = by_order (R x.0 y.0) (Some x, None) (Some x, Some y) (None, Some y)

-- the combination of the entries at one key, before others
abbrev pub keep_lowest : {K X : Type 0} → Combine K X → Option (K × X) → Option (K × X) → List (K × X) → List (K × X)
keep_lowest f None None es = es
keep_lowest f None (Some y) es = keep y.0 (f y.0 None (Some y.1)) es
keep_lowest f (Some x) None es = keep x.0 (f x.0 (Some x.1) None) es
keep_lowest f (Some x) (Some y) es = keep x.0 (f x.0 (Some x.1) (Some y.1)) es
