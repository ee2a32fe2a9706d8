use Rattle.std.proofs.Common.{ℕ, ◌<◌, ◌≤◌}
use Rattle.dac_shapes.specs.laws.Common.{texts_at, parser_state, tokens_left}
use Rattle.dac_shapes.proofs.Loops.{GoesTexts}
use Rattle.dac_shapes.proofs.parser.Parser.after_texts.Given as goal

abbrev pub invariant-loop-self : goal.invariant-loop-self
invariant-loop-self l = record {
  goes : (n : ℕ) → tokens_left l.fn.self < n → GoesTexts (texts_at n (parser_state l.fn.self)) (parser_state l.self);
  left : tokens_left l.self ≤ tokens_left l.fn.self;
}

abbrev pub decreases-loop-self : goal.decreases-loop-self
decreases-loop-self l = tokens_left l.self
