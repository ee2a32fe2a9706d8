use Rattle.std.proofs.Common.{◌≡◌, ◌++◌, take}
use Rattle.dac_live_play.proofs.Common.{flat_map, caller_text}
use Rattle.dac_live_play.specs.declared.texts.TheConstants.{CALLER_NUMBERS}
use Rattle.dac_live_play.proofs.printing.put_node.Given as goal

abbrev pub invariant-loop-caller : goal.invariant-loop-caller
invariant-loop-caller l = l.text.items ≡ l.fn.text.items ++ flat_map (caller_text l.config l.lines l.answers l.node) (take l.caller-index CALLER_NUMBERS)
