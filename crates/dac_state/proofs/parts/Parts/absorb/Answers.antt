use Rattle.std.proofs.Common.{◌∙◌}
use Rattle.dac_meaning.specs.StateValue.{join}
use Rattle.dac_state.proofs.Making.{joined_is, joined_state}
use Rattle.dac_state.proofs.parts.Parts.absorb.Goals as goal

pub absorb-requires-clause-mine : goal.absorb-requires-clause-mine
absorb-requires-clause-mine c = c.self.invariant.heard

pub absorb-requires-clause-theirs : goal.absorb-requires-clause-theirs
absorb-requires-clause-theirs c = c.other.invariant.heard

pub invariant_of-self : goal.invariant_of-self
invariant_of-self c = rw (c.in_err-absorb.ensures.err.0, c.in_err-absorb.ensures.err.1) c.self.invariant

pub invariant_of-self-2 : goal.invariant_of-self-2
invariant_of-self-2 c = joined_state _ _ c.self.inside.standing c.other.inside.standing _ _ _ _ c.self.invariant c.other.invariant c.in_ok-absorb.ensures.heard c.in_ok-absorb.ensures.standing c.in_ok-lives.ensures c.in_ok-claims.ensures

pub returns-clause-ok : goal.returns-clause-ok
returns-clause-ok c =
    joined_is _ _ c.self.inside.standing c.other.inside.standing _ _ _ _ c.in_ok-absorb.ensures.heard c.in_ok-absorb.ensures.standing c.in_ok-lives.ensures c.in_ok-claims.ensures
    ∙ (λ i. join (c.self.view_is i) (c.other.view_is i))
