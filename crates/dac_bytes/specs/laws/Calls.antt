-- From the laws of the definitions to the result of a call that reads.
use Rattle.std.specs.Prelude.{◌≡◌, ℕ, List, Result, Ok, Err}
use Rattle.std.proofs.Common.{sym, ap, subst, ◌∙◌}
use Rattle.dac_bytes.specs.declared.fault.ReadFault.{ReadFault}
use Rattle.dac_bytes.specs.Reading.{Rest, Field, Gives, IsOfBytes}
use Rattle.dac_bytes.specs.laws.Items.{Fails-from}
use Rattle.dac_bytes.specs.Takes.{TakesAs, Again, IsFoundAs, IsReadAgain}

-- a call that allocates nothing returns the result of the definition
pub exact_gives : {X : Type 0} (result read : Field X) → result ≡ read → IsOfBytes result → Gives (λ x. x) result read
exact_gives (Ok x) read is real = sym is
exact_gives (Err e) read is real = Fails-from e.kind e read real (sym is)

module _ {X Y : Type 0} (view : X → Y × Rest) (read : Rest → Field Y) (text : Y → List ℕ) (Is : Y → Type 0) where
  pub found_call : TakesAs read text Is → (r : Rest) (result : Result X ReadFault) → Gives view result (read r) → IsFoundAs view text Is r result
  found_call takes r (Ok x) gives fits = takes r (view x) fits gives
  found_call takes r (Err e) gives fits = tt

  pub again_call : ((y : Y) → Is y → Again read (text y) y) → (r : Rest) (result : Result X ReadFault) → Gives view result (read r) → IsReadAgain view text Is r result
  again_call again r result gives y rest is spelled =
      subst (Gives view result) (ap (λ (bytes : List ℕ). read (record { at = r.at; bytes = bytes })) spelled ∙ again y is r.at rest) gives
