use Rattle.std.proofs.Common.{◌≡◌, ◌+◌, ◌++◌, map}
use Rattle.dac_live_play.proofs.Common.{phase_text}
use Rattle.dac_live_play.specs.Texts.{phases_text}
use Rattle.dac_live_play.proofs.Placing.{left}
use Rattle.dac_live_play.proofs.printing.put_phases.Given as goal

abbrev pub invariant-loop-place : goal.invariant-loop-place
invariant-loop-place l =
    l.text.items ++ left (λ place part told. phase_text l.config (place + 1) part told) (map (λ part. part.now) l.parts) l.answers l.place
    ≡ l.fn.text.items ++ phases_text l.config (map (λ part. part.now) l.parts) l.answers
