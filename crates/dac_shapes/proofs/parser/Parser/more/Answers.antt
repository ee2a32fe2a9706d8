use Rattle.std.proofs.Common.{sym, ◌∙◌}
use Rattle.dac_tokens.specs.Words.{word_of}
use Rattle.dac_shapes.proofs.Loops.{comma_no_end}
use Rattle.dac_shapes.proofs.parser.Parser.more.Goals as goal

pub returns-then-is-clause-fewer : goal.returns-then-is-clause-fewer
returns-then-is-clause-fewer c = λ _. c.in_ok-advance.ensures.fewer (comma_no_end (word_of c.advance.new.self.token.token) (sym c.is.ensures ∙ c.if-is.true))

pub returns-clause-fewer : goal.returns-clause-fewer
returns-clause-fewer c = λ wrong. absurd cc
