-- The failure for a fault of the configuration.
use Rattle.dac_tokens.specs.declared.fault.ConfigFault.{ConfigFault}
use Rattle.dac_tokens.specs.declared.fault.FaultKind.{FaultKind}
use Rattle.dac_tokens.specs.declared.fault.FaultKind.TheVariants.{NoMemory}
use Rattle.dac_script.specs.declared.failure.Failure.{Failure}
use Rattle.dac_script.specs.declared.failure.Failure.TheVariants as failure

-- reading a configuration can also run out of memory, which isn't a fault
abbrev pub failure_of_kind : FaultKind → ConfigFault → Failure
failure_of_kind NoMemory fault = failure.NoMemory
failure_of_kind _ fault = failure.Config fault
