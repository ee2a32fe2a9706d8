-- The result of a call, from the results of the calls that it makes.
use Rattle.std.proofs.Common.{◌≡◌, ℕ, ◌≤◌, List, ◌++◌, length, None, Some, Result, Ok, Err, refl, sym, ap, subst, ◌∙◌, append_assoc}
use Rattle.dac_wire.specs.laws.Common.{Table, after, whole, IsBytes, IsCodec, ReadFault, PartCodecs, IsInForm, parts_at, preamble_fault, version_in, unless, packet_in, Gives, in_packet, fields_at, PREAMBLE, WireFault, TooLong, BadMagic, BadVersion, OtherConfig, Short, NoMemory, Packet, MAX_MESSAGE, IsPacket, packet_code, kind_of_packet, preamble_bytes, content_bytes, packet_bytes, u8_bytes, Version}
use Rattle.std.specs.Prelude.{IfOk}
use Rattle.dac_state.specs.StateSpelling as state
use Rattle.dac_wire.specs.Faults.{Fails}
use Rattle.dac_wire.specs.declared.fault.WireFaultKind.{WireFaultKind}
use Rattle.dac_wire.specs.declared.fault.WireFaultKind.TheVariants.{BadNumber, BadOrder, BadName, NotInList, NotKnown, Trailing}
use Rattle.dac_wire.specs.laws.Fronts.{IsReal, front_real, version_is}
use Rattle.dac_wire.specs.laws.PacketLaws.{packet_found, packet_again}

-- a fault that isn't `NoMemory` is the definition's fault
fails_with : {X : Type 0} (kind : WireFaultKind) (e : WireFault) (read : Result X WireFault) → ¬ (kind ≡ NoMemory) → read ≡ Err e → Fails kind e read
fails_with TooLong e read real h = h
fails_with BadMagic e read real h = h
fails_with BadVersion e read real h = h
fails_with OtherConfig e read real h = h
fails_with Short e read real h = h
fails_with BadNumber e read real h = h
fails_with BadOrder e read real h = h
fails_with BadName e read real h = h
fails_with NotInList e read real h = h
fails_with NotKnown e read real h = h
fails_with Trailing e read real h = h
fails_with NoMemory e read real h = absurd (real refl)

-- fields that are read as a packet are read as fields
given_ok : {X : Type 0} (r : Result X ReadFault) (x : X) → in_packet r ≡ Ok x → r ≡ Ok x
given_ok (Ok y) x h = cc
given_ok (Err e) x h = absurd cc

module _ (version : Version) (t : Table) (bytes : List ℕ) where
  -- the fault of an incorrect front is the result for the bytes
  pub gives_front : (e : WireFault) → preamble_fault version t bytes ≡ Some e → Gives (Err e) (packet_in version t bytes)
  unfolding packet_in
  gives_front e is = fails_with e.kind e (packet_in version t bytes) (subst IsReal is (front_real version t bytes)) (ap (λ f. unless f (in_packet (fields_at version t (after PREAMBLE (whole bytes))))) is)

  -- after a correct front, the result of reading the fields is the result for the bytes
  pub gives_fields : (result : Result Packet WireFault) → preamble_fault version t bytes ≡ None → Gives result (in_packet (fields_at version t (after PREAMBLE (whole bytes)))) → Gives result (packet_in version t bytes)
  unfolding packet_in
  gives_fields result is gives = subst (Gives result) (sym (ap (λ f. unless f (in_packet (fields_at version t (after PREAMBLE (whole bytes))))) is)) gives

  module _ (parts : PartCodecs version t) (states : IsCodec (parts_at version t) (state.state_bytes version) (IsInForm version t)) where
    -- the returned packet is well-formed, with these bytes as its spelling
    pub found_fields : IsBytes bytes → preamble_fault version t bytes ≡ None → (result : Result Packet WireFault) → Gives result (in_packet (fields_at version t (after PREAMBLE (whole bytes))))
        → IfOk result (λ p. IsPacket version t p × (bytes ≡ packet_bytes version t p) × (length bytes ≤ MAX_MESSAGE))
    found_fields fits is (Ok p) gives = packet_found version t parts states bytes p fits is (given_ok (fields_at version t (after PREAMBLE (whole bytes))) p gives)
    found_fields fits is (Err e) gives = tt

    -- a well-formed packet is returned for its spelling
    pub only_packet : (result : Result Packet WireFault) → Gives result (packet_in version t bytes) → (p : Packet) → IsPacket version t p → bytes ≡ packet_bytes version t p → length bytes ≤ MAX_MESSAGE → Gives result (Ok p)
    only_packet result gives p is text short = subst (Gives result) (packet_again version t parts states bytes p is text short) gives

-- ---- by the version that the bytes name

-- the spelling of a packet in a version is one in some version
pub found_in : (t : Table) (bytes : List ℕ) (version : Version) (result : Result Packet WireFault)
    → IfOk result (λ p. IsPacket version t p × (bytes ≡ packet_bytes version t p) × (length bytes ≤ MAX_MESSAGE))
    → IfOk result (λ p. (version : Version) × IsPacket version t p × (bytes ≡ packet_bytes version t p) × (length bytes ≤ MAX_MESSAGE))
found_in t bytes version (Ok p) found = (version, found.0, found.1, found.2)
found_in t bytes version (Err e) found = tt

-- bytes of a version are read by this version
pub version_spelled : (version : Version) (t : Table) (bytes : List ℕ) (p : Packet) → bytes ≡ packet_bytes version t p → version_in bytes ≡ version
unfolding packet_bytes
version_spelled version t bytes p text =
    version_is version t bytes (u8_bytes (packet_code (kind_of_packet p)) ++ content_bytes version p) (text ∙ append_assoc (preamble_bytes version t) (u8_bytes (packet_code (kind_of_packet p))) (content_bytes version p))
