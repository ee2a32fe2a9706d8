use Rattle.std.proofs.Common.{◌<◌, ℕ}
use Rattle.dac_weave.specs.laws.Common.{At}
use Rattle.dac_weave.proofs.mail.Mail.next.Given as goal

abbrev pub invariant-loop-i : goal.invariant-loop-i
invariant-loop-i l = (i : ℕ) → i < l.i → (p : ℕ) → At l.bucket i p → At l.self.shipped p l.message → ⊥
