-- When a dot can be appended to a sorted list: it is above all dots there.
use Rattle.std.specs.Prelude.{Bool}
use Rattle.dac_origins.specs.Dots.{Dots, dot_cmp}
use Rattle.dac_origins.specs.InOrder.{in_order}
use Rattle.dac_origins.specs.declared.dot.Dot.{Dot}
use Rattle.dac_sorted.specs.Appending.{is_above_keys}

-- whether the dot is above each dot of the set
abbrev pub is_above_dots : Dots → Dot → Bool
is_above_dots s d = is_above_keys dot_cmp (in_order s) d
