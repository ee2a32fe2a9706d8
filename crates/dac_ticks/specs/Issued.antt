-- Operations that one incarnation issues in sequence: each under the next dot in the state that the earlier ones left.
use Rattle.std.specs.Prelude.{◌≡◌, List, [], ◌∷◌}
use Rattle.dac_origins.specs.declared.dot.Origin.{Origin}
use Rattle.dac_operations.specs.declared.act.Act.{Act}
use Rattle.dac_operations.specs.Operations.{Operation}
use Rattle.dac_meaning.specs.StateValue.{StateValue, join}
use Rattle.dac_meaning.specs.Meaning.{meaning_of}
use Rattle.dac_commands.specs.Commands.{next_operation}

-- the incarnation's next operation, with any act
abbrev pub IsNextOf : Origin → StateValue → Operation → Type 0
IsNextOf own s o = (act : Act) × (o ≡ next_operation s own act)

abbrev pub AreIssued : Origin → StateValue → List Operation → Type 0
AreIssued own s [] = Unit {0}
AreIssued own s (o ∷ os) = IsNextOf own s o × AreIssued own (join s (meaning_of (o ∷ []))) os
