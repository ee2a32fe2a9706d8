use Rattle.std.proofs.Common.{refl}
use Rattle.dac_script.specs.laws.Common.{same_text, other_text}
use Rattle.dac_script.proofs.Parting.{front_more, parted_here, unparted}
use Rattle.dac_script.proofs.input.split_input.Goals as goal

pub returns-then-eq : goal.returns-then-eq
returns-then-eq c =
    parted_here c.args.text.now c.loop-rest.rest.now _ c.first_line.result.0.now c.first_line.result.1 c.unwrap_or.result _ c.first_line.ensures.last c.first_line.ensures.more
    (same_text _ _ c.if-eq.ensures) c.split_at.ensures.front c.unwrap_or.ensures refl c.loop-rest.invariant

pub returns-in_err-rest : goal.returns-in_err-rest
returns-in_err-rest c =
    rw c.from_residual.ensures (unparted c.args.text.now c.loop-rest.rest.now c.first_line.result.0.now (rw c.in_err-rest.was at c.first_line.ensures.last) (other_text _ _ c.if-eq.ensures) c.loop-rest.invariant)

pub loop-rest-preserved : goal.loop-rest-preserved
loop-rest-preserved c =
    front_more c.args.text.now c.loop-rest.rest.now c.first_line.result.0.now c.in_ok-rest.rest.now (rw c.in_ok-rest.was at c.first_line.ensures.whole) (rw c.in_ok-rest.was at c.first_line.ensures.more) (other_text _ _ c.if-eq.ensures) c.loop-rest.invariant
