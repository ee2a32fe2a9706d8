use Rattle.std.proofs.Common.{◌≡◌, sym, subst, ◌∙◌}
use Rattle.dac_wire.specs.laws.Common.{packet_in, Gives, IsPacket, packet_bytes}
use Rattle.dac_wire.specs.Decoding.{packet_at}
use Rattle.dac_wire.proofs.Giving.{found_in, version_spelled}
use Rattle.dac_wire.proofs.coding.decode.Goals as goal

pub returns-clause-found : goal.returns-clause-found
returns-clause-found c = found_in c.args.config.now c.args.bytes.now c.version_in-version.result c.decode_in.result c.decode_in.ensures.found

pub returns-clause-only : goal.returns-clause-only
returns-clause-only c = λ version p is text short.
    let same : c.version_in-version.result ≡ version = c.version_in-version.ensures ∙ version_spelled version c.args.config.now c.args.bytes.now p text in
    c.decode_in.ensures.only p (subst (λ v. IsPacket v c.args.config.now p) (sym same) is) (subst (λ v. c.args.bytes.now ≡ packet_bytes v c.args.config.now p) (sym same) text) short

pub returns-clause-exact : goal.returns-clause-exact
unfolding packet_at
returns-clause-exact c = subst (λ v. Gives c.decode_in.result (packet_in v c.args.config.now c.args.bytes.now)) c.version_in-version.ensures c.decode_in.ensures.exact
