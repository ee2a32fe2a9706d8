use Rattle.std.proofs.Common.{◌≡◌, ℕ, ◌<◌, ◌≤◌, ◌+◌, ◌*◌, false, cond}
use Rattle.dac_shapes.specs.laws.Common.{located_of, word_of, is_end, terms_in, term_at, parser_state, tokens_left}
use Rattle.dac_shapes.proofs.Loops.{GoesTerms}
use Rattle.dac_shapes.proofs.parser.Parser.+terms.Given as goal

abbrev pub decreases-after_term : goal.decreases-after_term
decreases-after_term l = cond (is_end (word_of l.self.now.token.token)) 0 (2 * tokens_left l.self.now + 2)

abbrev pub decreases-after_terms : goal.decreases-after_terms
decreases-after_terms l = 2 * tokens_left l.self.now + 1

abbrev pub invariant-after_terms-loop-self : goal.invariant-after_terms-loop-self
invariant-after_terms-loop-self l = record {
  goes : (n : ℕ) → tokens_left l.fn.self < n → GoesTerms (term_at n) l.fn.close (terms_in (term_at n) l.fn.close n (parser_state l.fn.self)) (located_of l.self.token) (parser_state l.self);
  left : tokens_left l.self ≤ tokens_left l.fn.self;
  fewer : is_end (word_of l.self.token.token) ≡ false → tokens_left l.self < tokens_left l.fn.self;
}

abbrev pub decreases-after_terms-loop-self : goal.decreases-after_terms-loop-self
decreases-after_terms-loop-self l = tokens_left l.self
