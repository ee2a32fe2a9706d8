-- The codec of the heads of messages.
use Rattle.std.specs.Prelude.{◌≡◌, ℕ, ◌≤◌, List, ◌++◌, None, Some, Ok, refl, ◌+◌, ◌<◌}
use Rattle.std.proofs.Common.{sym, ap, subst, ◌∙◌, arith, append_assoc}
use Rattle.dac_wire.specs.laws.Common.{zero, suc, Bool, [], Option, w8, append-nil, NodeId, MAX_COUNTER, Origin, ReadFault, FieldCodecs, codec_same, codec_wanted, codec_made, codec_both, codec_pair, u8_bytes, u64_bytes, IsOrigin, Rest, range_at, origin_at, origin_bytes, IsCodec, Passes, Takes, TakesAs, Again, Takes-none, TakesAs-made, Again-made, ok_is, highest_incarnation, only_code, only_of_code, IsOnly, is_only_of, head_at, Head, Version}
use Rattle.dac_bytes.specs.declared.fault.ReadFaultKind.TheVariants.{BadNumber}
use Rattle.dac_bytes.specs.Reading.{node_at, incarnation_or_zero_at}
use Rattle.dac_bytes.specs.Spelling.{incarnation_bytes}
use Rattle.dac_wire.specs.Codes.{ack_code}
use Rattle.dac_wire.specs.Form.{IsAck}
use Rattle.dac_wire.specs.Reading.{sender_and_receiver_at, only_code_at, only_at, deltas_at, got_at, acked_if_at, ack_at, counts_at, only_and_counts_at, head_of}
use Rattle.dac_wire.specs.Spelling.{ack_bytes}
use Rattle.dac_wire.specs.laws.CodeLaws.{only_number, only_is, only_fits, only_back}

abbrev AreDeltas : ℕ → Type 0
AreDeltas n = n ≤ MAX_COUNTER

-- a message without its state
abbrev pub head_bytes : Version → Head → List ℕ
head_bytes version h = origin_bytes version h.from ++ u8_bytes h.to.0 ++ incarnation_bytes version (only_code h.only) ++ u64_bytes h.up_to ++ ack_bytes version h.ack

-- a head is well-formed
pub record IsHead (version : Version) (nodes : ℕ) (whole : Bool) (h : Head) : Type 0 where
  pub from : IsOrigin version nodes h.from
  pub to : h.to.0 < nodes
  pub only : IsOnly version whole h.only
  pub up_to : h.up_to ≤ MAX_COUNTER
  pub ack : IsAck version nodes h.ack

regroup : (a b c d e : List ℕ) → (a ++ b) ++ (c ++ (d ++ e)) ≡ (((a ++ b) ++ c) ++ d) ++ e
regroup a b c d e = sym (simp append_assoc)

module _ (version : Version) (nodes : ℕ) (fields : FieldCodecs version nodes) where
  -- ---- the incarnation that the message is for

  abbrev only_bytes : Option ℕ → List ℕ
  only_bytes only = incarnation_bytes version (only_code only)

  abbrev IsCode : ℕ → Type 0
  IsCode n = n ≤ highest_incarnation version

  only_code_codec : (whole : Bool) → IsCodec (only_code_at version whole) (incarnation_bytes version) (Passes IsCode (is_only_of whole))
  unfolding only_code_at
  only_code_codec whole =
      let wrong : Rest → ℕ × Rest → ReadFault = λ r _. record { kind = BadNumber; at = r.at } in
      codec_wanted (incarnation_or_zero_at version) (incarnation_bytes version) IsCode fields.incarnation_or_zero (is_only_of whole) wrong

  only_codec : (whole : Bool) → IsCodec (only_at version whole) only_bytes (IsOnly version whole)
  unfolding only_at
  only_codec whole =
      codec_made (only_code_at version whole) (incarnation_bytes version) (Passes IsCode (is_only_of whole)) (only_code_codec whole) only_of_code only_bytes (IsOnly version whole)
      (λ n is. (ap (incarnation_bytes version) (only_number n), only_is version whole n is.0 is.1)) (λ only is. (only_code only, only_fits version whole only is, only_back version whole only is))

  -- ---- the acknowledgement

  -- the acknowledgement after its code
  abbrev got_bytes : Option (Origin × ℕ) → List ℕ
  got_bytes None = []
  got_bytes (Some got) = origin_bytes version got.0 ++ u64_bytes got.1

  deltas_codec : IsCodec deltas_at u64_bytes AreDeltas
  deltas_codec = codec_same deltas_at u64_bytes (λ n. (0 ≤ n) × (n ≤ MAX_COUNTER)) (fields.u64_in 0 MAX_COUNTER (omega arith)) AreDeltas (λ n is. is.1) (λ n is. (omega arith, is))

  abbrev IsGot : Origin × ℕ → Type 0
  IsGot got = IsOrigin version nodes got.0 × AreDeltas got.1

  got_codec : IsCodec (got_at version nodes) (λ got. origin_bytes version got.0 ++ u64_bytes got.1) IsGot
  unfolding got_at
  got_codec = codec_pair (origin_at version nodes) (origin_bytes version) (IsOrigin version nodes) fields.origin (λ _ r. deltas_at r) (λ _. u64_bytes) (λ _. AreDeltas) (λ _ _. deltas_codec)

  -- the acknowledgement that fits a code
  abbrev IsAckOf : ℕ → Option (Origin × ℕ) → Type 0
  IsAckOf n ack = (ack_code ack ≡ n) × IsAck version nodes ack

  got_if_takes : (n : ℕ) → n ≤ 1 → TakesAs (acked_if_at version nodes n) got_bytes (IsAckOf n)
  unfolding acked_if_at
  got_if_takes zero le = λ r x fits e.
      subst (λ (x : Option (Origin × ℕ) × Rest). Takes r (got_bytes x.0) x.1 × IsAckOf 0 x.0) (ok_is (None, r) x e) (Takes-none r fits, (refl, tt))
  got_if_takes (suc zero) le =
      TakesAs-made (got_at version nodes) (λ got. origin_bytes version got.0 ++ u64_bytes got.1) IsGot Some got_bytes (IsAckOf 1) got_codec.takes (λ got is. (refl, (refl, is)))
  got_if_takes (suc (suc n)) le = absurd (omega arith)

  got_if_again : (ack : Option (Origin × ℕ)) → IsAck version nodes ack → Again (acked_if_at version nodes (ack_code ack)) (got_bytes ack) ack
  unfolding acked_if_at
  got_if_again None is = λ at rest. let none : at ≡ at + 0 = omega arith in ap (λ (n : ℕ). Ok (None, record { at = n; bytes = rest })) none
  got_if_again (Some got) is = Again-made (got_at version nodes) Some (got_bytes (Some got)) got (got_codec.again got is)

  got_if_codec : (n : ℕ) → (0 ≤ n) × (n ≤ 1) → IsCodec (acked_if_at version nodes n) got_bytes (IsAckOf n)
  got_if_codec n is = record {
    takes = got_if_takes n is.1;
    again = λ ack of. subst (λ n. Again (acked_if_at version nodes n) (got_bytes ack) ack) of.0 (got_if_again ack of.1);
  }

  ack_spelled : (ack : Option (Origin × ℕ)) → u8_bytes (ack_code ack) ++ got_bytes ack ≡ ack_bytes version ack
  unfolding ack_bytes
  ack_spelled None = append-nil (u8_bytes 0)
  ack_spelled (Some got) = sym (append_assoc (u8_bytes 1) (origin_bytes version got.0) (u64_bytes got.1))

  ack_fits : (ack : Option (Origin × ℕ)) → (0 ≤ ack_code ack) × (ack_code ack ≤ 1)
  ack_fits None = (omega arith, omega arith)
  ack_fits (Some got) = (omega arith, omega arith)

  ack_codec : IsCodec (ack_at version nodes) (ack_bytes version) (IsAck version nodes)
  unfolding ack_at
  ack_codec =
      codec_both (range_at w8 0 1) u8_bytes (λ n. (0 ≤ n) × (n ≤ 1)) (fields.u8_in 0 1 (omega arith)) (λ n r. acked_if_at version nodes n r) (λ _. got_bytes) IsAckOf got_if_codec
      (λ _ ack. ack) (ack_bytes version) (IsAck version nodes)
      (λ n ack _ is. (ap (λ n. u8_bytes n ++ got_bytes ack) (sym is.0) ∙ ack_spelled ack, is.1)) (λ ack is. (ack_code ack, ack, ack_fits ack, (refl, is), refl))

  -- ---- the message without its state

  abbrev Counts : Type 0
  Counts = ℕ × Option (Origin × ℕ)

  abbrev counts_bytes : Counts → List ℕ
  counts_bytes c = u64_bytes c.0 ++ ack_bytes version c.1

  abbrev AreCounts : Counts → Type 0
  AreCounts c = AreDeltas c.0 × IsAck version nodes c.1

  counts_codec : IsCodec (counts_at version nodes) counts_bytes AreCounts
  unfolding counts_at
  counts_codec = codec_pair deltas_at u64_bytes AreDeltas deltas_codec (λ _ r. ack_at version nodes r) (λ _. ack_bytes version) (λ _. IsAck version nodes) (λ _ _. ack_codec)

  abbrev route_bytes : Origin × NodeId → List ℕ
  route_bytes r = origin_bytes version r.0 ++ u8_bytes r.1.0

  abbrev IsRoute : Origin × NodeId → Type 0
  IsRoute r = IsOrigin version nodes r.0 × (r.1.0 < nodes)

  route_codec : IsCodec (sender_and_receiver_at version nodes) route_bytes IsRoute
  unfolding sender_and_receiver_at
  route_codec =
      codec_pair (origin_at version nodes) (origin_bytes version) (IsOrigin version nodes) fields.origin (λ _ r. node_at nodes r) (λ _ (node : NodeId). u8_bytes node.0) (λ _ node. node.0 < nodes) (λ _ _. fields.node)

  module _ (whole : Bool) where
    abbrev bound_bytes : Option ℕ × Counts → List ℕ
    bound_bytes b = only_bytes b.0 ++ counts_bytes b.1

    abbrev IsBound : Option ℕ × Counts → Type 0
    IsBound b = IsOnly version whole b.0 × AreCounts b.1

    bound_codec : IsCodec (only_and_counts_at version nodes whole) bound_bytes IsBound
    unfolding only_and_counts_at
    bound_codec = codec_pair (only_at version whole) only_bytes (IsOnly version whole) (only_codec whole) (λ _ r. counts_at version nodes r) (λ _. counts_bytes) (λ _. AreCounts) (λ _ _. counts_codec)

    pub head_codec : IsCodec (head_at version nodes whole) (head_bytes version) (IsHead version nodes whole)
    unfolding head_at
    head_codec =
        codec_both (sender_and_receiver_at version nodes) route_bytes IsRoute route_codec (λ _ r. only_and_counts_at version nodes whole r) (λ _. bound_bytes) (λ _. IsBound) (λ _ _. bound_codec)
        head_of (head_bytes version) (IsHead version nodes whole)
        (λ r b is so. (
          regroup (origin_bytes version r.0) (u8_bytes r.1.0) (only_bytes b.0) (u64_bytes b.1.0) (ack_bytes version b.1.1),
          record { from = is.0; to = is.1; only = so.0; up_to = so.1.0; ack = so.1.1 },
        ))
        (λ h is. ((h.from, h.to), (h.only, (h.up_to, h.ack)), (is.from, is.to), (is.only, (is.up_to, is.ack)), refl))
