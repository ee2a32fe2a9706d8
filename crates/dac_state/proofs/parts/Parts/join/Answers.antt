use Rattle.std.proofs.Common.{◌∙◌}
use Rattle.dac_meaning.specs.StateValue.{join}
use Rattle.dac_state.proofs.Making.{joined_is, joined_state, heard_joined}
use Rattle.dac_state.proofs.parts.Parts.join.Goals as goal

pub join-requires-clause-mine : goal.join-requires-clause-mine
join-requires-clause-mine c = rw c.known-mine.ensures c.self.invariant.heard

pub join-requires-clause-theirs : goal.join-requires-clause-theirs
join-requires-clause-theirs c = rw c.known-theirs.ensures c.other.invariant.heard

pub join_with_context-requires : goal.join_with_context-requires
join_with_context-requires c = rw (c.known-mine.ensures, c.known-theirs.ensures) at c.in_ok-known.ensures.known

pub invariant_of-result : goal.invariant_of-result
invariant_of-result c =
    let dots = rw (c.known-mine.ensures, c.known-theirs.ensures) at c.in_ok-known.ensures in
    let heard = heard_joined _ _ c.self.inside.standing c.other.inside.standing c.in_ok-known.heard dots.known dots.heard c.in_ok-standing.ensures in
    joined_state _ _ c.self.inside.standing c.other.inside.standing _ _ _ _ c.self.invariant c.other.invariant heard c.in_ok-standing.ensures c.in_ok-lives.ensures c.in_ok-claims.ensures

pub returns : goal.returns
returns c =
    let dots = rw (c.known-mine.ensures, c.known-theirs.ensures) at c.in_ok-known.ensures in
    let heard = heard_joined _ _ c.self.inside.standing c.other.inside.standing c.in_ok-known.heard dots.known dots.heard c.in_ok-standing.ensures in
    joined_is _ _ c.self.inside.standing c.other.inside.standing _ _ _ _ heard c.in_ok-standing.ensures c.in_ok-lives.ensures c.in_ok-claims.ensures
    ∙ (λ i. join (c.self.view_is i) (c.other.view_is i))
