-- The fault that a reader of the code returns.
use Rattle.std.proofs.Common.{◌≡◌, ◌≢◌, ℕ, Result, Ok, Err, refl}
use Rattle.dac_shapes.specs.laws.Common.{IfErr, FaultKind, NoMemory, ConfigFault, OrMemory, Gives}

-- the claim holds unless memory ran out
claimed : (k : FaultKind) (at : ℕ) (P : Type 0) → k ≢ NoMemory → OrMemory k at P → P
claimed NoMemory at P other h = absurd (other refl)
claimed _ at P other h = h

-- a property of the definition's fault holds of the returned fault, unless memory ran out
pub answered : {X Y : Type 0} (view : X → Y) (result : Result X ConfigFault) (read : Result Y ConfigFault) (P : ConfigFault → Type 0) → ((e : ConfigFault) → read ≡ Err e → P e) → Gives view result read → IfErr result (λ e. e.kind ≢ NoMemory → P e)
answered view (Ok x) read P law gives = tt
answered view (Err e) read P law gives = λ other. law e (claimed e.kind e.at (read ≡ Err e) other gives)
