-- Values in form are read from their bytes.
use Rattle.std.proofs.Common.{◌≡◌, ℕ, ◌==◌, cond, List, [], ◌++◌, length, Ok, refl, sym, ap, ◌∙◌, append_assoc, append-nil}
use Rattle.dac_in_form.proofs.Common.{Table, Two, StateValue, IsInForm, InEachRun, IsSmall, RunIsInForm}
use Rattle.dac_bytes.specs.Numbers.{u8_bytes}
use Rattle.dac_bytes.specs.Reading.{whole, fault, ◌>>=◌}
use Rattle.dac_bytes.specs.Takes.{IsCodec}
use Rattle.dac_bytes.specs.declared.fault.ReadFaultKind.TheVariants.{Trailing}
use Rattle.dac_part_bytes.specs.PartCodecs.{PartCodecs}
use Rattle.dac_state.specs.StateReading.{parts_at, state_at}
use Rattle.dac_state.specs.StateSpelling as state
use Rattle.dac_wire.specs.Codes.{packet_code, kind_of_packet}
use Rattle.dac_wire.specs.Decoding.{version_in, packet_in, packet_at}
use Rattle.dac_wire.specs.Form.{IsPacket}
use Rattle.dac_wire.specs.Spelling.{preamble_bytes, content_bytes, packet_bytes, spelling_of}
use Rattle.dac_wire.specs.declared.packet.Packet.{Packet}
use Rattle.dac_wire.specs.declared.packet.Packet.TheVariants.{Msg, Single}
use Rattle.dac_wire.specs.laws.Fronts.{version_is}
use Rattle.dac_wire.specs.laws.PacketLaws.{packet_again}
use Rattle.dac_in_form.specs.ReadAgain.{StateIsRead, PacketIsRead, EachRunIsRead}

module _ (t : Table) (parts : PartCodecs Two t) (states : IsCodec (parts_at Two t) (state.state_bytes Two) (IsInForm Two t)) where
  named : (p : Packet) → version_in (spelling_of t p) ≡ Two
  unfolding packet_bytes
  named p = version_is Two t (spelling_of t p) (u8_bytes (packet_code (kind_of_packet p)) ++ content_bytes Two p) (append_assoc (preamble_bytes Two t) (u8_bytes (packet_code (kind_of_packet p))) (content_bytes Two p))

  packet_read : (p : Packet) → IsPacket Two t p → PacketIsRead t p
  unfolding packet_at
  packet_read p is short = ap (λ version. packet_in version t (spelling_of t p)) (named p) ∙ packet_again Two t parts states (spelling_of t p) p is refl short

  state_read : (s : StateValue) → IsInForm Two t s → StateIsRead t s
  unfolding state_at
  state_read s is =
      ap (λ (bytes : List ℕ). parts_at Two t (whole bytes) >>= λ s. cond (length s.1.bytes == 0) (Ok s.0) (fault Trailing s.1)) (sym (append-nil (state.state_bytes Two s)))
      ∙ ap (λ f. f >>= λ s. cond (length s.1.bytes == 0) (Ok s.0) (fault Trailing s.1)) (states.again s is 0 [])

  pub each_run_is_read : IsSmall t → InEachRun RunIsInForm → EachRunIsRead t
  each_run_is_read small runs events answers v ran =
      let run = runs t events answers v ran in
      record {
        issued = λ o i. packet_read (Single o) (run.issued o i);
        states = λ n s held fits. state_read s (run.states small n s held fits);
        shipped = λ k m there fits. packet_read (Msg m) (run.shipped small k m there fits);
      }
