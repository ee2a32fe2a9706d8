-- The printed lines.
use Rattle.std.specs.Prelude.{ℕ, Bool, true, false, List, ◌++◌, codes}
use Rattle.std.specs.Fmt.{decimal}
use Rattle.std.specs.FinSet as set
use Rattle.dac_messages.specs.declared.message.Body.{Body}
use Rattle.dac_messages.specs.declared.message.Body.TheVariants.{Whole, Interval, Nothing}
use Rattle.dac_tokens.specs.Faults.{number_of, name_of}
use Rattle.dac_tokens.specs.declared.fault.ConfigFault.{ConfigFault}
use Rattle.hex.specs.Hex.{encode_lower}
use Rattle.dac_script.specs.declared.failure.Failure.{Failure}
use Rattle.dac_script.specs.declared.failure.Failure.TheVariants as failure
use Rattle.dac_script.specs.declared.fault.InputFault.{InputFault}
use Rattle.dac_script.specs.declared.fault.ScriptFault.{ScriptFault}
use Rattle.dac_script.specs.Faults.{input_number, input_name, script_number, script_name}
use Rattle.dac_config.specs.Canonical.{name_text}

-- a boot: its incarnation, and the number of its operation
abbrev pub booted_text : ℕ → ℕ → List ℕ
booted_text incarnation operation =
    codes "booted " ++ (decimal incarnation ++ (codes " op " ++ (decimal operation ++ codes "\n")))

-- an issued operation: its number, node, incarnation and counter
abbrev pub issued_text : ℕ → List ℕ → ℕ → ℕ → List ℕ
issued_text operation node incarnation counter =
    codes "issued " ++ (decimal operation ++ (codes " " ++ (name_text node ++ (codes " " ++ (decimal incarnation ++ (codes " " ++ (decimal counter ++ codes "\n")))))))

-- a shipped message: its number, the kind of its body, and the number of heard dots in its state
abbrev pub shipped_text : ℕ → Body → List ℕ
shipped_text message (Whole s) =
    codes "shipped " ++ (decimal message ++ (codes " whole " ++ (decimal (set.len s.heard) ++ codes "\n")))
shipped_text message (Interval s) =
    codes "shipped " ++ (decimal message ++ (codes " interval " ++ (decimal (set.len s.heard) ++ codes "\n")))
shipped_text message Nothing = codes "shipped " ++ (decimal message ++ codes " nothing\n")

-- an anti-entropy round: the number of messages
abbrev pub shared_text : ℕ → List ℕ
shared_text messages = codes "shared " ++ (decimal messages ++ codes "\n")

-- a crash
abbrev pub crashed_text : List ℕ
crashed_text = codes "crashed\n"

-- a tick that the start gate holds back
abbrev pub held_text : List ℕ
held_text = codes "held\n"

-- a node that waited in vain for a mandatory one and went down
abbrev pub gave_up_text : List ℕ
gave_up_text = codes "gave up\n"

-- a delivery: whether it contained new information
abbrev pub heard_text : Bool → List ℕ
heard_text true = codes "heard new\n"
heard_text false = codes "heard nothing new\n"

-- no message has this number
abbrev pub no_message_text : ℕ → List ℕ
no_message_text message = codes "no message " ++ (decimal message ++ codes "\n")

-- no operation has this number
abbrev pub no_operation_text : ℕ → List ℕ
no_operation_text operation = codes "no operation " ++ (decimal operation ++ codes "\n")

-- a refusal: its number and name
abbrev pub refused_text : ℕ → List ℕ → List ℕ
refused_text number name = codes "refused " ++ (decimal number ++ (codes " " ++ (name ++ codes "\n")))

-- whether two states have the same bytes
abbrev pub same_text : Bool → List ℕ
same_text true = codes "same\n"
same_text false = codes "differ\n"

-- bytes of a state or a message, as two hexadecimal digits each
abbrev pub hex_text : List ℕ → List ℕ
hex_text bytes = encode_lower bytes ++ codes "\n"

-- a fault of the whole input: its number and name
abbrev pub input_fault_text : InputFault → List ℕ
input_fault_text fault =
    codes "input fault " ++ (decimal (input_number fault) ++ (codes " " ++ (input_name fault ++ codes "\n")))

-- a fault of the configuration: its number, name and byte
abbrev pub config_fault_text : ConfigFault → List ℕ
config_fault_text fault =
    codes "config fault " ++ (decimal (number_of fault.kind) ++ (codes " " ++ (name_of fault.kind ++ (codes " at " ++ (decimal fault.at ++ codes "\n")))))

-- a fault of the script: its line, number and name
abbrev pub script_fault_text : ScriptFault → List ℕ
script_fault_text fault =
    codes "script fault " ++ (decimal fault.line ++ (codes " " ++ (decimal (script_number fault.kind) ++ (codes " " ++ (script_name fault.kind ++ codes "\n")))))

-- the line of a failure
abbrev pub failure_text : Failure → List ℕ
failure_text (failure.Input fault) = input_fault_text fault
failure_text (failure.Config fault) = config_fault_text fault
failure_text (failure.Script fault) = script_fault_text fault
failure_text failure.NoMemory = codes "out of memory\n"
