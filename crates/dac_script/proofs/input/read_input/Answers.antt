use Rattle.std.proofs.Common.{ℕ, ◌+◌, ◌≤◌, List, ◌++◌, length, Option, Result, arith, length-append}
use Rattle.dac_script.specs.laws.Common.{Consumes}
use Rattle.std.proofs.KnownBytes.{Consumes-trans}
use Rattle.dac_script.specs.Input.{Takes, TakesAtMost}
use Rattle.dac_script.proofs.input.read_input.Goals as goal

-- the number of bytes read stays bounded, also by a failed read
takes_few : {T E : Type 0} (a b c : Option (List ℕ)) (room most : ℕ) (old new : List ℕ) (r : Result T E) → Consumes a b old → Takes b c room old new r → length old + room ≤ most → TakesAtMost a c most
takes_few a b c room most old new r had t fits = record { bytes = old ++ t.bytes; taken = Consumes-trans a b c old t.bytes had t.taken; few = omega (arith, length-append old t.bytes, t.few, fits) }

pub returns-in_err-read_on-clause-stops : goal.returns-in_err-read_on-clause-stops
returns-in_err-read_on-clause-stops g c = takes_few _ _ _ _ _ _ _ _ c.loop-text.invariant.taken c.in_err-read_on.ensures.taken (omega (arith, c.loop-text.text.ok.0))
