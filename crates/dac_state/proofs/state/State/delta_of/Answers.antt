use Rattle.std.proofs.Common.{◌∷◌, [], ◌∙◌, ap, sym}
use Rattle.dac_wishes.specs.StandingValue.{StandingValue}
use Rattle.dac_state.specs.Heard.{heard_given}
use Rattle.dac_state.proofs.Making.{is_state}
use Rattle.dac_state.proofs.state.State.delta_of.Goals as goal

pub beside-parts-requires : goal.beside-parts-requires
beside-parts-requires c =
    is_state
    (record {
      heard = ap (heard_given c.in_ok-heard.heard) (sym c.known.ensures) ∙ c.in_ok-heard.ensures;
      standing = c.in_ok-standing.ensures;
      lives = c.in_ok-lives.ensures;
      claims = c.in_ok-claims.ensures;
    })
    (c.parts_of_meaning.ensures.state (c.args.op.now ∷ []))

pub heard_by-requires : goal.heard_by-requires
heard_by-requires c = c.known.ensures ∙ ap (λ (v : StandingValue). v.known) c.in_ok-standing.ensures
