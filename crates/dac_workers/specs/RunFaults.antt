-- The numbers and names of a run's faults, and the faults of a link.
use Rattle.std.specs.Prelude.{◌≡◌, ⊤, ℕ, List, codes}
use Rattle.dac_base.specs.declared.NodeId.{NodeId}
use Rattle.dac_sites.specs.declared.faults.LiveFault.{LiveFault}
use Rattle.dac_sites.specs.declared.faults.LiveFault.TheVariants as call
use Rattle.dac_workers.specs.declared.faults.RunFault.{RunFault}
use Rattle.dac_workers.specs.declared.faults.RunFault.TheVariants.{TooManyNodes, NoThread, LinkLost, Open, Site, Close, NoPage, NoMemory}

-- the number in the program's output
abbrev pub number_of : RunFault → ℕ
number_of TooManyNodes = 1
number_of NoThread = 2
number_of (LinkLost from to) = 3
number_of (Open why) = 4
number_of (Site node why) = 5
number_of (Close node why) = 6
number_of (NoPage node) = 7
number_of NoMemory = 8

-- the name in the program's output
abbrev pub name_of : RunFault → List ℕ
name_of TooManyNodes = codes "TooManyNodes"
name_of NoThread = codes "NoThread"
name_of (LinkLost from to) = codes "LinkLost"
name_of (Open why) = codes "Open"
name_of (Site node why) = codes "Site"
name_of (Close node why) = codes "Close"
name_of (NoPage node) = codes "NoPage"
name_of NoMemory = codes "NoMemory"

-- ---- faults of a link
-- a call failed without a record
abbrev pub IsUnrecorded : LiveFault → Type 0
IsUnrecorded call.JournalFull = ⊤
IsUnrecorded (call.Refused place why) = ⊥
IsUnrecorded call.NoMemory = ⊤

-- A fault of the link between these two nodes, at its end `own`: the link is lost, a call of the site left no record,
-- or an allocation failed.
abbrev pub IsLinkFault : NodeId → NodeId → NodeId → RunFault → Type 0
IsLinkFault from to own TooManyNodes = ⊥
IsLinkFault from to own NoThread = ⊥
IsLinkFault from to own (LinkLost f t) = (f ≡ from) × (t ≡ to)
IsLinkFault from to own (Open why) = ⊥
IsLinkFault from to own (Site node why) = (node ≡ own) × IsUnrecorded why
IsLinkFault from to own (Close node why) = ⊥
IsLinkFault from to own (NoPage node) = ⊥
IsLinkFault from to own NoMemory = ⊤
