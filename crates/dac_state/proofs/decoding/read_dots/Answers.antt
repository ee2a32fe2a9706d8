use Rattle.std.proofs.Common.{◌∙◌, sym}
use Rattle.std.proofs.lemmas.Bool.{false≢true}
use Rattle.dac_state.proofs.Reading.{dots_within, dots_not_within}
use Rattle.dac_state.proofs.decoding.read_dots.Goals as goal

pub returns-then-is_subset-clause-exact : goal.returns-then-is_subset-clause-exact
returns-then-is_subset-clause-exact c =
    dots_within c.args.version c.args.nodes c.args.reader c.in_ok-heard.rest c.in_ok-known.rest c.in_ok-heard.heard c.in_ok-known.known c.in_ok-heard.ensures.exact c.in_ok-known.ensures.exact (c.is_subset.ensures.0 c.if-is_subset.true)

pub returns-clause-exact : goal.returns-clause-exact
returns-clause-exact c =
    dots_not_within c.args.version c.args.nodes c.args.reader c.in_ok-heard.rest c.in_ok-known.rest c.in_ok-heard.heard c.in_ok-known.known c.in_ok-heard.ensures.exact c.in_ok-known.ensures.exact
    (λ s. false≢true (sym c.if-is_subset.false ∙ c.is_subset.ensures.1 s)) c.at.result c.at.ensures
