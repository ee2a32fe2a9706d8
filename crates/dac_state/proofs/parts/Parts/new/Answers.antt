use Rattle.std.proofs.Common.{◌∙◌}
use Rattle.dac_state.specs.Parts.{state_of_parts}
use Rattle.dac_state.proofs.parts.Parts.new.Goals as goal

pub of-heard-requires : goal.of-heard-requires
of-heard-requires c = rw c.known.ensures c.requires.heard

pub beside-requires : goal.beside-requires
beside-requires c = rw (rw c.known.ensures at c.of-heard.ensures) c.requires

pub returns : goal.returns
returns c = c.beside.ensures ∙ (λ i. state_of_parts ((rw c.known.ensures at c.of-heard.ensures) i) c.args.standing c.args.lives c.args.claims)
