-- Which faults are causes.
use Rattle.std.specs.Prelude.{Bool, true, false}
use Rattle.dac_workers.specs.declared.faults.RunFault.{RunFault}
use Rattle.dac_workers.specs.declared.faults.RunFault.TheVariants as fault

-- A fault is a cause, unless it is a lost link: the worker at the other end dropped it because of a fault of its own.
abbrev pub is_cause : RunFault → Bool
is_cause fault.TooManyNodes = true
is_cause fault.NoThread = true
is_cause (fault.LinkLost from to) = false
is_cause (fault.Open why) = true
is_cause (fault.Site node why) = true
is_cause (fault.Close node why) = true
is_cause (fault.NoPage node) = true
is_cause fault.NoMemory = true
