use Rattle.std.proofs.Common.{◌∙◌, ap}
use Rattle.dac_state.specs.Heard.{heard_given}
use Rattle.dac_state.specs.Parts.{state_of_parts, standing_in}
use Rattle.dac_state.proofs.parts.Parts.equal.Goals as goal

pub equal_with_contexts-requires : goal.equal_with_contexts-requires
equal_with_contexts-requires c = c.knows_same.ensures.0 c.if-not-knows_same.false

pub returns : goal.returns
returns c =
    let known = c.knows_same.ensures.0 c.if-not-knows_same.false in
    let heard = (rw c.known.ensures at c.equal.ensures).0 c.if-not-equal.false ∙ ap (heard_given c.other.inside.heard) known in
    let lives = c.equal-2.ensures.0 c.if-not-equal-2.false in
    let claims = c.equal-3.ensures.0 c.if-not-equal-3.false in
    rw (← c.self.view_is, ← c.other.view_is) (
      λ e. let standing = c.equal_with_contexts.ensures.0 e in λ i. state_of_parts (heard i) (standing i) (lives i) (claims i),
      λ same. c.equal_with_contexts.ensures.1 (ap standing_in same),
    )
