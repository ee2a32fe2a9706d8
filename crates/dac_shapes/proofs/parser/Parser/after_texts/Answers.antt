use Rattle.std.proofs.Common.{◌<◌, ◌∙◌, sym, arith}
use Rattle.dac_shapes.specs.laws.Common.{word_of, tokens_left}
use Rattle.dac_shapes.proofs.Loops.{failed, text_no_end, texts_fail, texts_end, texts_go}
use Rattle.dac_shapes.proofs.parser.Parser.after_texts.Goals as goal

pub returns-in_err-advance-clause-read : goal.returns-in_err-advance-clause-read
returns-in_err-advance-clause-read c = λ n lt.
    rw (failed _ _ c.from_residual.ensures.1) (texts_fail (c.loop-self.invariant.goes n lt) _ c.in_err-advance.ensures.read)

pub returns-then-not-is_text-clause-read : goal.returns-then-not-is_text-clause-read
returns-then-not-is_text-clause-read c = λ n lt. texts_end (c.loop-self.invariant.goes n lt) c.in_ok-advance.ensures.read (sym c.is_text.ensures ∙ c.if-not-is_text.true)

pub loop-self-preserved : goal.loop-self-preserved
loop-self-preserved c =
    let is = sym c.is_text.ensures ∙ c.if-not-is_text.false in
    let fewer : tokens_left c.advance.new.self < tokens_left c.loop-self.self = c.in_ok-advance.ensures.fewer (text_no_end (word_of c.advance.new.self.token.token) is) in
    record {
      goes = λ n lt. texts_go (c.loop-self.invariant.goes n lt) c.in_ok-advance.ensures.read is fewer;
      left = omega (arith, fewer, c.loop-self.invariant.left);
    }
