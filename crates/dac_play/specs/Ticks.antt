-- The lines printed for a tick.
use Rattle.std.specs.Prelude.{ℕ, ◌+◌, ◌-◌, List, [], ◌∷◌, ◌++◌, Option, length, nat_lt, codes, if◌then◌else◌}
use Rattle.std.specs.List.{flat_map}
use Rattle.std.specs.Fmt.{decimal}
use Rattle.dac_base.specs.declared.AppId.{AppId}
use Rattle.dac_base.specs.declared.NodeId.{NodeId}
use Rattle.dac_chains.specs.declared.claims.How.{How}
use Rattle.dac_operations.specs.declared.act.Act.{Act}
use Rattle.dac_operations.specs.declared.act.Act.TheVariants.{Claim}
use Rattle.dac_operations.specs.Operations.{Operation}
use Rattle.dac_config.specs.Table.{Table, app_count, app_name}
use Rattle.dac_config.specs.Canonical.{name_text}
use Rattle.dac_status.specs.Texts.{how_text, from_text}

-- an application's name, or its number if it isn't configured
abbrev pub app_text : Table → AppId → List ℕ
app_text table app = if nat_lt app.0 (app_count table) then name_text (app_name table app) else decimal app.0

-- a claim's term, its cause, and the previous node if it was taken from one
abbrev pub term_text : Table → ℕ → How → Option NodeId → List ℕ
term_text table term how from = codes " term " ++ (decimal term ++ (how_text how ++ from_text table from))

-- a claim: its operation's number, its application, term and cause; a tick issues only claims
abbrev pub claim_text : Table → ℕ → Act → List ℕ
claim_text table operation (Claim app term how from) =
    codes "claim " ++ (decimal operation ++ (codes " " ++ (app_text table app ++ (term_text table term how from ++ codes "\n"))))
claim_text table operation _ = []

-- the lines of claims that follow this many operations
abbrev pub claims_text : Table → ℕ → List Operation → List ℕ
claims_text table before [] = []
claims_text table before (o ∷ os) = claim_text table (before + 1) o.act ++ claims_text table (before + 1) os

-- an application that should be claimed, but whose terms are used up
abbrev pub passed_text : Table → AppId → List ℕ
passed_text table app = codes "passed " ++ (app_text table app ++ codes "\n")

-- a tick with its claims and passed applications; operations is the world's count after it
abbrev pub ticked_text : Table → ℕ → List Operation → List AppId → List ℕ
ticked_text table operations ops passed =
    codes "ticked\n" ++ (claims_text table (operations - length ops) ops ++ flat_map (passed_text table) passed)
