use Rattle.std.proofs.Common.{◌%◌, ◌∙◌, arith, ap}
use Rattle.dac_deltas.proofs.Levels.{longest_level}
use Rattle.dac_deltas.proofs.blocks.level_at.Goals as goal

pub returns-else-number-longer-eq0 : goal.returns-else-number-longer-eq0
returns-else-number-longer-eq0 c =
    let held = c.loop-level.invariant in
    longest_level c.args.number c.args.most c.loop-level.level held.small held.aligned held.fits (λ low p q. c.if-number-longer-eq0.false (ap (λ n. c.args.number % n) held.longer ∙ p))

pub returns-else-longer-most : goal.returns-else-longer-most
returns-else-longer-most c =
    let held = c.loop-level.invariant in
    longest_level c.args.number c.args.most c.loop-level.level held.small held.aligned held.fits (λ low p q. omega arith)
