-- The dots of a set, in any representation.
use Rattle.std.specs.Prelude.{List, [], ◌∷◌}
use Rattle.dac_origins.specs.declared.dot.Dot.{Dot}
use Rattle.dac_store.specs.declared.few.FewDots.{FewDots}
use Rattle.dac_store.specs.declared.few.FewDots.TheVariants.{Empty, One, Sorted}

abbrev pub dots_of : FewDots → List Dot
dots_of Empty = []
dots_of (One dot) = dot ∷ []
dots_of (Sorted dots) = dots.items
