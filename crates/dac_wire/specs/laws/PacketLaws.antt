-- The codec of packets.
use Rattle.std.specs.Prelude.{◌≡◌, ℕ, ◌≤◌, ◌==◌, List, ◌++◌, length, None, Ok, refl}
use Rattle.std.proofs.Common.{sym, ap, subst, ◌∙◌, append_assoc}
use Rattle.dac_wire.specs.laws.Common.{Bool, true, false, cond, [], drop, append-nil, eqb-true, Table, node_count, codec_both, codec_pair, Rest, after, whole, IsBytes, IsCodec, TakesAs, Again, TakesAs-made, Again-made, PartCodecs, IsInForm, parts_at, kind_of_packet, preamble_fault, unless, packet_in, in_packet, IsOperation, IsPacket, head_at, operation_at, packet_kind_at, fields_at, operation_bytes, content_bytes, preamble_bytes, packet_bytes, PacketKind, Whole, Interval, Nothing, Single, Head, Packet, PREAMBLE, MAX_MESSAGE, Version}
use Rattle.std.proofs.lemmas.List.{drop_at, nil_from_length}
use Rattle.dac_bytes.specs.declared.fault.ReadFaultKind.TheVariants.{Trailing}
use Rattle.dac_bytes.specs.Reading.{◌>>=◌, fault}
use Rattle.dac_bytes.specs.laws.Takes.{Takes-front, bind_ok, wanted_ok}
use Rattle.dac_meaning.specs.StateValue.{StateValue}
use Rattle.dac_state.specs.StateSpelling as state
use Rattle.dac_messages.specs.declared.message.Body.{Body}
use Rattle.dac_messages.specs.declared.message.Body.TheVariants.{Whole as WholeBody, Interval as IntervalBody, Nothing as NoBody}
use Rattle.dac_messages.specs.declared.message.Message.{Message}
use Rattle.dac_wire.specs.Codes.{kind_of_body}
use Rattle.dac_wire.specs.Form.{is_whole, IsBodyInForm, IsMessage}
use Rattle.dac_wire.specs.Reading.{message_of, head_and_state_at, content_at, kind_and_content_at}
use Rattle.dac_wire.specs.Spelling.{body_bytes, message_bytes}
use Rattle.dac_wire.specs.declared.packet.Packet.TheVariants as packet
use Rattle.dac_wire.specs.laws.ActLaws.{operation_codec}
use Rattle.dac_wire.specs.laws.CodeLaws.{IsAny, packet_kind_bytes, packet_kind_codec}
use Rattle.dac_wire.specs.laws.Fronts.{preamble_length, front_begins, front_long, front_is}
use Rattle.dac_wire.specs.laws.HeadLaws.{head_bytes, IsHead, head_codec}

abbrev head_in : Message → Head
head_in m = record { from = m.from; to = m.to; only = m.only; up_to = m.up_to; ack = m.ack }

module _ (version : Version) (t : Table) (parts : PartCodecs version t) (states : IsCodec (parts_at version t) (state.state_bytes version) (IsInForm version t)) where
  abbrev nodes : ℕ
  nodes = node_count t

  -- ---- messages

  abbrev carrying_bytes : Head × StateValue → List ℕ
  carrying_bytes m = head_bytes version m.0 ++ state.state_bytes version m.1

  module _ (whole : Bool) where
    abbrev IsCarrying : Head × StateValue → Type 0
    IsCarrying m = IsHead version nodes whole m.0 × IsInForm version t m.1

    carrying_codec : IsCodec (head_and_state_at version t whole) carrying_bytes IsCarrying
    unfolding head_and_state_at
    carrying_codec =
        codec_pair (head_at version nodes whole) (head_bytes version) (IsHead version nodes whole) (head_codec version nodes parts.fields whole) (λ _ r. parts_at version t r) (λ _. state.state_bytes version) (λ _. IsInForm version t) (λ _ _. states)

  message_is : (h : Head) (body : Body) → IsHead version nodes (is_whole body) h → IsBodyInForm version t body → IsMessage version t (message_of h body)
  message_is h body is so = record { from = is.from; to = is.to; only = is.only; up_to = is.up_to; ack = is.ack; body = so }

  head_is : (h : Head) (body : Body) → IsMessage version t (message_of h body) → IsHead version nodes (is_whole body) h
  head_is h body is = record { from = is.from; to = is.to; only = is.only; up_to = is.up_to; ack = is.ack }

  -- ---- the fields of a packet of some kind

  abbrev IsPacketOf : PacketKind → Packet → Type 0
  IsPacketOf kind p = (kind_of_packet p ≡ kind) × IsPacket version t p

  abbrev whole_message : Head × StateValue → Packet
  whole_message m = packet.Msg (message_of m.0 (WholeBody m.1))

  abbrev interval_message : Head × StateValue → Packet
  interval_message m = packet.Msg (message_of m.0 (IntervalBody m.1))

  abbrev empty_message : Head → Packet
  empty_message h = packet.Msg (message_of h NoBody)

  content_takes : (kind : PacketKind) → TakesAs (content_at version t kind) (content_bytes version) (IsPacketOf kind)
  unfolding content_at content_bytes message_bytes body_bytes
  content_takes Whole =
      TakesAs-made (head_and_state_at version t true) carrying_bytes (IsCarrying true) whole_message (content_bytes version) (IsPacketOf Whole) (carrying_codec true).takes (λ m is. (refl, (refl, message_is m.0 (WholeBody m.1) is.0 is.1)))
  content_takes Interval =
      TakesAs-made (head_and_state_at version t false) carrying_bytes (IsCarrying false) interval_message (content_bytes version) (IsPacketOf Interval) (carrying_codec false).takes (λ m is. (refl, (refl, message_is m.0 (IntervalBody m.1) is.0 is.1)))
  content_takes Nothing =
      TakesAs-made (head_at version nodes false) (head_bytes version) (IsHead version nodes false) empty_message (content_bytes version) (IsPacketOf Nothing) (head_codec version nodes parts.fields false).takes
      (λ h is. (sym (append-nil (head_bytes version h)), (refl, message_is h NoBody is tt)))
  content_takes Single =
      TakesAs-made (operation_at version t) (operation_bytes version) (IsOperation version t) (λ o. packet.Single o) (content_bytes version) (IsPacketOf Single) (operation_codec version t parts).takes (λ o is. (refl, (refl, is)))

  message_again : (h : Head) (body : Body) → IsMessage version t (message_of h body) → Again (content_at version t (kind_of_body body)) (content_bytes version (packet.Msg (message_of h body))) (packet.Msg (message_of h body))
  unfolding content_at content_bytes message_bytes body_bytes
  message_again h (WholeBody s) is = Again-made (head_and_state_at version t true) whole_message (carrying_bytes (h, s)) (h, s) ((carrying_codec true).again (h, s) (head_is h (WholeBody s) is, is.body))
  message_again h (IntervalBody s) is = Again-made (head_and_state_at version t false) interval_message (carrying_bytes (h, s)) (h, s) ((carrying_codec false).again (h, s) (head_is h (IntervalBody s) is, is.body))
  message_again h NoBody is =
      subst (λ (text : List ℕ). Again (content_at version t Nothing) text (empty_message h)) (sym (append-nil (head_bytes version h)))
      (Again-made (head_at version nodes false) empty_message (head_bytes version h) h ((head_codec version nodes parts.fields false).again h (head_is h NoBody is)))

  content_again : (p : Packet) → IsPacket version t p → Again (content_at version t (kind_of_packet p)) (content_bytes version p) p
  unfolding content_at content_bytes
  content_again (packet.Msg m) is = message_again (head_in m) m.body is
  content_again (packet.Single o) is = Again-made (operation_at version t) (λ o. packet.Single o) (operation_bytes version o) o ((operation_codec version t parts).again o is)

  content_codec : (kind : PacketKind) → IsAny kind → IsCodec (content_at version t kind) (content_bytes version) (IsPacketOf kind)
  content_codec kind any = record { takes = content_takes kind; again = λ p is. subst (λ k. Again (content_at version t k) (content_bytes version p) p) is.0 (content_again p is.1) }

  abbrev tail_bytes : Packet → List ℕ
  tail_bytes p = packet_kind_bytes (kind_of_packet p) ++ content_bytes version p

  tail_codec : IsCodec (kind_and_content_at version t) tail_bytes (IsPacket version t)
  unfolding kind_and_content_at
  tail_codec =
      codec_both packet_kind_at packet_kind_bytes IsAny (packet_kind_codec version nodes parts.fields) (λ kind r. content_at version t kind r) (λ _. content_bytes version) IsPacketOf content_codec
      (λ _ p. p) tail_bytes (IsPacket version t)
      (λ kind p _ is. (ap (λ k. packet_kind_bytes k ++ content_bytes version p) (sym is.0), is.1)) (λ p is. (kind_of_packet p, p, tt, (refl, is), refl))

  -- ---- without further bytes

  none_left : (bytes : List ℕ) → (length bytes == 0) ≡ true → bytes ≡ []
  none_left bytes e = nil_from_length bytes (eqb-true (length bytes) 0 e)

  fields_found : (r : Rest) (p : Packet) → IsBytes r.bytes → fields_at version t r ≡ Ok p → (r.bytes ≡ tail_bytes p) × IsPacket version t p
  unfolding fields_at
  fields_found r p fits e =
      let b = bind_ok (kind_and_content_at version t r) (λ p. cond (length p.1.bytes == 0) (Ok p.0) (fault Trailing p.1)) p e in
      let g = wanted_ok (length b.0.1.bytes == 0) Trailing b.0.1 b.0.0 p b.2 in
      let f = tail_codec.takes r b.0 fits b.1 in
      let all : r.bytes ≡ tail_bytes b.0.0 = f.0.parts ∙ ap (λ rest. tail_bytes b.0.0 ++ rest) (none_left b.0.1.bytes g.0) ∙ append-nil (tail_bytes b.0.0) in
      subst (λ p. (r.bytes ≡ tail_bytes p) × IsPacket version t p) g.1 (all, f.1)

  fields_again : (at : ℕ) (bytes : List ℕ) (p : Packet) → IsPacket version t p → bytes ≡ tail_bytes p → fields_at version t (record { at = at; bytes = bytes }) ≡ Ok p
  unfolding fields_at
  fields_again at bytes p is text =
      ap (λ (bytes : List ℕ). kind_and_content_at version t (record { at = at; bytes = bytes }) >>= λ p. cond (length p.1.bytes == 0) (Ok p.0) (fault Trailing p.1)) (text ∙ sym (append-nil (tail_bytes p)))
      ∙ ap (λ f. f >>= λ p. cond (length p.1.bytes == 0) (Ok p.0) (fault Trailing p.1)) (tail_codec.again p is at [])

  -- ---- packets

  spelled : (p : Packet) → packet_bytes version t p ≡ preamble_bytes version t ++ tail_bytes p
  unfolding packet_bytes
  spelled p = append_assoc (preamble_bytes version t) (packet_kind_bytes (kind_of_packet p)) (content_bytes version p)

  -- A packet that is read after a correct front is well-formed, with these bytes as its spelling.
  pub packet_found : (bytes : List ℕ) (p : Packet) → IsBytes bytes → preamble_fault version t bytes ≡ None → fields_at version t (after PREAMBLE (whole bytes)) ≡ Ok p → IsPacket version t p × (bytes ≡ packet_bytes version t p) × (length bytes ≤ MAX_MESSAGE)
  packet_found bytes p fits none e =
      let front = front_begins version t bytes none in
      let f = fields_found (after PREAMBLE (whole bytes)) p (Takes-front PREAMBLE (whole bytes) (front_long version t bytes none) fits).fits e in
      (f.1, front.0 ∙ ap (λ rest. preamble_bytes version t ++ rest) f.0 ∙ sym (spelled p), front.1)

  -- A well-formed packet is read from its spelling.
  pub packet_again : (bytes : List ℕ) (p : Packet) → IsPacket version t p → bytes ≡ packet_bytes version t p → length bytes ≤ MAX_MESSAGE → packet_in version t bytes ≡ Ok p
  unfolding packet_in
  packet_again bytes p is text short =
      let parts = text ∙ spelled p in
      let behind : drop PREAMBLE bytes ≡ tail_bytes p = ap (drop PREAMBLE) parts ∙ drop_at (preamble_bytes version t) (tail_bytes p) PREAMBLE (preamble_length version t) in
      ap (λ f. unless f (in_packet (fields_at version t (after PREAMBLE (whole bytes))))) (front_is version t bytes (tail_bytes p) parts short)
      ∙ ap in_packet (fields_again PREAMBLE (drop PREAMBLE bytes) p is behind)
