-- The entries that a map's representation stands for.
use Rattle.std.specs.Prelude.{List, [], ◌∷◌}
use Rattle.std.specs.Arc.{arc_value}
use Rattle.dac_sorted.specs.declared.map.Kept.{Kept}
use Rattle.dac_sorted.specs.declared.map.Kept.TheVariants.{Nothing, One, Many}

abbrev pub entries_kept : {K V D : Type 0} → Kept K V D → List (K × V)
entries_kept Nothing = []
entries_kept (One entry) = arc_value entry ∷ []
entries_kept (Many kept) = arc_value kept
