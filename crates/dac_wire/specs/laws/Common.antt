-- The names that several proofs cite, passed on from one place. Declares nothing.
pub use Rattle.std.proofs.lemmas.Bool.{eqb-true, lt-ltb}
pub use Rattle.std.proofs.lemmas.List.{append-nil}
pub use Rattle.std.specs.Int.{w8}
pub use Rattle.std.specs.Prelude.{Bool, true, Option, zero, suc, false, cond, [], drop}
pub use Rattle.dac_base.specs.declared.NodeId.{NodeId}
pub use Rattle.dac_base.specs.declared.limits.TheConstants.{MAX_COUNTER}
pub use Rattle.dac_config.specs.Table.{Table, node_count}
pub use Rattle.dac_origins.specs.declared.dot.Dot.{Dot}
pub use Rattle.dac_origins.specs.declared.dot.Origin.{Origin}
pub use Rattle.dac_bytes.specs.FieldCodecs.{FieldCodecs}
unfoldable pub use Rattle.dac_bytes.specs.Numbers.{u8_bytes, u64_bytes}
pub use Rattle.dac_bytes.specs.Ranges.{IsOrigin}
pub use Rattle.dac_bytes.specs.Reading.{after, whole, Rest}
unfoldable pub use Rattle.dac_bytes.specs.Reading.{dot_above_at, items_at, range_at, origin_at}
unfoldable pub use Rattle.dac_bytes.specs.Spelling.{dot_bytes, origin_bytes}
pub use Rattle.dac_bytes.specs.Takes.{IsBytes, IsCodec, Passes, Takes, TakesAs, Again}
pub use Rattle.dac_bytes.specs.Versions.{highest_incarnation}
pub use Rattle.dac_bytes.specs.declared.fault.ReadFault.{ReadFault}
pub use Rattle.dac_bytes.specs.declared.version.Version.{Version}
pub use Rattle.dac_bytes.specs.declared.version.Version.TheVariants.{Two, One}
pub use Rattle.dac_bytes.specs.laws.Codecs.{codec_same, codec_wanted, codec_both, codec_pair, codec_made}
pub use Rattle.dac_bytes.specs.laws.Takes.{Takes-none, TakesAs-made, Again-made, ok_is}
pub use Rattle.dac_part_bytes.specs.PartCodecs.{PartCodecs}
pub use Rattle.dac_state.specs.StateForm.{IsInForm}
unfoldable pub use Rattle.dac_state.specs.StateReading.{parts_at}
pub use Rattle.dac_wire.specs.Codes.{packet_code, kind_of_packet, IsKindIn, value_code, value_of_code, only_code, only_of_code}
pub use Rattle.dac_wire.specs.Decoding.{unless}
unfoldable pub use Rattle.dac_wire.specs.Decoding.{preamble_fault, version_in, packet_in}
pub use Rattle.dac_wire.specs.Faults.{Gives, in_packet}
pub use Rattle.dac_wire.specs.Form.{IsPacket, IsOperation, IsOnly}
pub use Rattle.dac_wire.specs.Reading.{is_only_of}
unfoldable pub use Rattle.dac_wire.specs.Reading.{fields_at, act_kind_at, operation_at, packet_kind_at, head_at}
unfoldable pub use Rattle.dac_wire.specs.Spelling.{preamble_bytes, content_bytes, packet_bytes, operation_bytes}
pub use Rattle.dac_wire.specs.declared.codes.ActKind.{ActKind}
pub use Rattle.dac_wire.specs.declared.codes.ActKind.TheVariants.{Up, Down, Permit, Start, Stop, Claim, Drain}
pub use Rattle.dac_wire.specs.declared.codes.PacketKind.{PacketKind}
pub use Rattle.dac_wire.specs.declared.codes.PacketKind.TheVariants.{Whole, Interval, Nothing, Single}
pub use Rattle.dac_wire.specs.declared.coding.TheConstants.{PREAMBLE}
pub use Rattle.dac_wire.specs.declared.fault.WireFault.{WireFault}
pub use Rattle.dac_wire.specs.declared.fault.WireFaultKind.TheVariants.{TooLong, BadMagic, BadVersion, OtherConfig, Short, NoMemory}
pub use Rattle.dac_wire.specs.declared.head.Head.{Head}
pub use Rattle.dac_wire.specs.declared.packet.Packet.{Packet}
pub use Rattle.dac_wire.specs.declared.packet.TheConstants.{MAX_MESSAGE}
