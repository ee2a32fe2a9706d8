-- Why an input isn't checked.
use Rattle.std.proofs.Common.{◌≡◌, ℕ, List, Option, Err, sym, subst}
use Rattle.std.specs.Prelude.{IfSome}
use Rattle.std.proofs.lemmas.Option.{IfSome_then}
use Rattle.dac_tokens.specs.declared.fault.ConfigFault.{ConfigFault}
use Rattle.dac_tokens.specs.declared.fault.FaultKind.{FaultKind}
use Rattle.dac_tokens.specs.declared.fault.FaultKind.TheVariants.{NoMemory}
use Rattle.dac_tokens.specs.Gives.{OrMemory}
use Rattle.dac_config.specs.Reading.{config_at}
use Rattle.dac_script.specs.declared.failure.Failure.{Failure}
use Rattle.dac_script.specs.Failures.{failure_of_kind}
use Rattle.dac_script.specs.Input.{IsTaken}
use Rattle.dac_play.specs.Checks.{IsUnchecked}

unchecked_by : (kind : FaultKind) (text : List ℕ) (fault : ConfigFault) → IsTaken text → OrMemory kind fault.at (config_at text ≡ Err fault) → IsUnchecked text (failure_of_kind kind fault)
unchecked_by NoMemory text fault taken fails = tt
unchecked_by _ text fault taken fails = (taken, fails)

-- an input whose configuration has this fault isn't checked
pub config_unchecked : (had : Option (List ℕ)) (text : List ℕ) (fault : ConfigFault) (why : Failure) → IfSome had (λ bytes. text ≡ bytes) → IsTaken text → OrMemory fault.kind fault.at (config_at text ≡ Err fault) → why ≡ failure_of_kind fault.kind fault → IfSome had (λ bytes. IsUnchecked bytes why)
config_unchecked had text fault why whole taken fails is_why =
    let unchecked : IsUnchecked text why = subst (IsUnchecked text) (sym is_why) (unchecked_by fault.kind text fault taken fails) in
    IfSome_then had whole (λ bytes same. subst (λ read. IsUnchecked read why) same unchecked)
