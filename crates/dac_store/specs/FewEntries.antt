-- The entries of a store, in any representation.
use Rattle.std.specs.Prelude.{List, []}
use Rattle.std.specs.Arc.{arc_value}
use Rattle.dac_origins.specs.declared.dot.Dot.{Dot}
use Rattle.dac_store.specs.declared.few_entries.FewEntries.{FewEntries}
use Rattle.dac_store.specs.declared.few_entries.FewEntries.TheVariants.{Empty, One, Sorted}

abbrev pub entries_of : {V : Type 0} → FewEntries V → List (Dot × V)
entries_of Empty = []
entries_of (One single) = single
entries_of (Sorted entries) = arc_value entries
