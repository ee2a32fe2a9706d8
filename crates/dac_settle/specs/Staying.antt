-- Settled applications stay settled, for a rule of verdicts. Settling needs this of loads: a claim changes loads, but
-- unsettles nothing.
use Rattle.std.specs.Prelude.{◌≡◌, List, None}
use Rattle.dac_base.specs.declared.AppId.{AppId}
use Rattle.dac_operations.specs.Operations.{Operation}
use Rattle.dac_meaning.specs.StateValue.{StateValue}
use Rattle.dac_meaning.specs.Meaning.{meaning_of}
use Rattle.dac_config.specs.Table.{Table}
use Rattle.dac_placement.specs.declared.verdicts.Verdict.{Verdict}
use Rattle.dac_placement.specs.Placement.{candidate_of}
use Rattle.dac_settle.specs.Rounds.{IsGrown}
use Rattle.dac_settle.specs.Placed.{placed}

-- If an application has no candidate by a set, it has none by the set with added claims that are good at it.
abbrev pub Stays : (Table → StateValue → AppId → Verdict) → Type 0
Stays rule = (t : Table) (s x : List Operation) (app : AppId) → IsGrown (placed t) s x
    → candidate_of (rule t (meaning_of s) app) ≡ None → candidate_of (rule t (meaning_of x) app) ≡ None
