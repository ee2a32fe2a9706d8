use Rattle.std.proofs.Common.{◌≡◌, ◌++◌}
use Rattle.dac_live_play.proofs.Common.{own_text, caller_text}
use Rattle.dac_live_play.proofs.Placing.{left}
use Rattle.dac_live_play.proofs.printing.put_caller.Given as goal

abbrev pub invariant-loop-place : goal.invariant-loop-place
invariant-loop-place l =
    l.text.items ++ left (λ place line answer. own_text l.config l.node l.caller line answer) l.lines l.answers l.place ≡ l.fn.text.items ++ caller_text l.config l.lines l.answers l.node l.caller
