-- Callers in scripts of `live`.
use Rattle.std.specs.Prelude.{ℕ, ◌<◌, ◌≤◌, Bool, List, Option, Some, None, Result, Ok, Err, codes, if◌then◌else◌}
use Rattle.std.specs.List.{list_all}
use Rattle.std.specs.Str.{bytes_eq}
use Rattle.std.specs.Char.{is_ascii_digit}
use Rattle.dac_base.specs.declared.NodeId.{NodeId}
use Rattle.dac_script.specs.declared.fault.ScriptFaultKind.{ScriptFaultKind}
use Rattle.dac_script.specs.declared.fault.ScriptFaultKind.TheVariants.{BadNumber}
use Rattle.dac_script.specs.declared.line.Request.{Request}
use Rattle.dac_script.specs.declared.live_line.LiveLine.{LiveLine}
use Rattle.dac_script.specs.declared.live_line.LiveLine.TheVariants.{Do, Read, Feed, Phase}
use Rattle.dac_script.specs.Values.{least_of}

-- only digits
abbrev pub is_caller_word : List ℕ → Bool
is_caller_word word = list_all is_ascii_digit word

-- the caller's number, 1 to 4
abbrev pub caller_of : List ℕ → Option ℕ
caller_of word =
    if bytes_eq word (codes "1") then Some 1
    else (if bytes_eq word (codes "2") then Some 2
    else (if bytes_eq word (codes "3") then Some 3
    else (if bytes_eq word (codes "4") then Some 4
    else None)))

-- a caller's number and its request combined, with the least fault
abbrev pub with_caller : Option ℕ → Result (NodeId × Option Request) ScriptFaultKind → Result LiveLine ScriptFaultKind
with_caller (Some caller) (Ok (node, Some asked)) = Ok (Do node caller asked)
with_caller (Some caller) (Ok (node, None)) = Ok (Read node caller)
with_caller (Some caller) (Err kind) = Err kind
with_caller None (Ok both) = Err BadNumber
with_caller None (Err kind) = Err (least_of BadNumber kind)

-- the caller's node is below this number, and the caller is 1 to 4
abbrev pub HasActors : ℕ → LiveLine → Type 0
HasActors nodes (Do node caller asked) = (node.0 < nodes) × (0 < caller) × (caller ≤ 4)
HasActors nodes (Read node caller) = (node.0 < nodes) × (0 < caller) × (caller ≤ 4)
HasActors nodes (Feed bytes) = Unit {0}
HasActors nodes Phase = Unit {0}
