-- A row's verdict that doesn't depend on loads.
use Rattle.std.specs.Prelude.{◌≡◌, ℕ, List, Option, IfSome, length}
use Rattle.dac_base.specs.declared.NodeId.{NodeId}
use Rattle.dac_placement.specs.declared.standing.Standing.{Standing}
use Rattle.dac_placement.specs.declared.verdicts.Verdict.{Verdict}
use Rattle.dac_placement.specs.Choices.{choice_by, verdict_on}
use Rattle.dac_board.specs.declared.spot.Spot.{Spot}
use Rattle.dac_board.specs.Rows.{group_on, is_on}

-- if present, it is the verdict for this standing and these eligible nodes
abbrev pub IsSettled : Option Verdict → Standing → Option ℕ → List (Option Spot) → Type 0
IsSettled settled standing group spots = (loads : NodeId → ℕ)
    → IfSome settled (λ verdict. verdict ≡ verdict_on standing group (choice_by (group_on spots) (is_on spots) loads (length spots)))
