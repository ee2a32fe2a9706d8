-- Heard dots decide the order of a node's state and the content brought to it.
use Rattle.std.specs.Prelude.{◌↔◌, IsTrue, [], ◌∷◌}
use Rattle.std.specs.FinSet as set
use Rattle.dac_origins.specs.Dots.{IsSubset}
use Rattle.dac_operations.specs.Operations.{Operation}
use Rattle.dac_meaning.specs.StateValue.{StateValue}
use Rattle.dac_meaning.specs.Meaning.{meaning_of}
use Rattle.dac_meaning.specs.Below.{is_below}

-- the content is below the state if and only if the state has heard all of its dots
abbrev pub IsBelowByDots : StateValue → StateValue → Type 0
IsBelowByDots body s = IsTrue (is_below body s) ↔ IsSubset body.heard s.heard

-- the operation's meaning is below the state if and only if the state has heard its dot
abbrev pub IsBelowByDot : Operation → StateValue → Type 0
IsBelowByDot o s = IsTrue (is_below (meaning_of (o ∷ [])) s) ↔ IsTrue (set.contains s.heard o.dot)
