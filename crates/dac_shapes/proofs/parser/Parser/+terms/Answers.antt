use Rattle.std.proofs.Common.{◌≡◌, ◌<◌, ◌∙◌, sym, ap, true, arith, inl, inr}
use Rattle.dac_shapes.specs.laws.Common.{Comma, located_of, word_of, is_end, is_symbol, term_at, parser_state, tokens_left}
use Rattle.dac_shapes.proofs.Loops.{failed, comma_no_end, is_enough, in_fail, in_empty, in_begin, terms_fail, terms_end, terms_bad, terms_fail_more, terms_go, opens}
use Rattle.dac_shapes.specs.laws.TermCases.{by_name, by_number, by_text, by_mark, by_other_mark, by_end}
use Rattle.dac_shapes.proofs.parser.Parser.+terms.Goals as goal

pub after_term-returns-in-Atom-clause-read : goal.after_term-returns-in-Atom-clause-read
after_term-returns-in-Atom-clause-read t c = λ n enough.
    let o = opens n (located_of c.args.self.now.token) (parser_state c.args.self.now) enough in
    elim c.in-Atom.is [
      | inl h ↦ rw (o.2 ∙ by_name _ _ _ _ h.0.now (ap word_of h.1)) c.advance.ensures.read
      | inr h ↦ rw (o.2 ∙ by_number _ _ _ _ h.0 h.1.now (ap word_of h.2)) c.advance.ensures.read
    ]

pub after_term-returns-in-Text-clause-read : goal.after_term-returns-in-Text-clause-read
after_term-returns-in-Text-clause-read t c = λ n enough.
    let o = opens n (located_of c.args.self.now.token) (parser_state c.args.self.now) enough in
    rw (o.2 ∙ by_text _ _ _ _ (ap word_of c.in-Text.is)) (c.after_texts.ensures.read o.0 (o.1 (ap is_end (ap word_of c.in-Text.is))))

pub after_term-returns-in-Some-clause-read : goal.after_term-returns-in-Some-clause-read
after_term-returns-in-Some-clause-read t c = λ n enough.
    let o = opens n (located_of c.args.self.now.token) (parser_state c.args.self.now) enough in
    rw (o.2 ∙ by_mark _ _ _ _ _ _ (ap word_of c.in-Symbol.is) (sym c.in-Some.ensures)) (c.after_terms.ensures.read o.0 (o.1 (ap is_end (ap word_of c.in-Symbol.is))))

pub after_term-returns-in-None-clause-read : goal.after_term-returns-in-None-clause-read
after_term-returns-in-None-clause-read t c = λ n enough.
    rw c.fault.ensures ((opens n _ _ enough).2 ∙ by_other_mark _ _ _ _ _ (ap word_of c.in-Symbol.is) (sym c.in-None.ensures))

pub after_term-returns-in-End-clause-read : goal.after_term-returns-in-End-clause-read
after_term-returns-in-End-clause-read t c = λ n enough.
    rw c.fault-in-End.ensures ((opens n _ _ enough).2 ∙ by_end _ _ _ _ (ap word_of c.in-End.is))

pub after_terms-returns-in_err-advance-clause-read : goal.after_terms-returns-in_err-advance-clause-read
after_terms-returns-in_err-advance-clause-read t c = λ n lt.
    rw (failed _ _ c.from_residual.ensures.1) (in_fail (term_at n) c.args.close _ n (parser_state c.args.self.now) c.in_err-advance.ensures.read)

pub after_terms-returns-then-is-clause-read : goal.after_terms-returns-then-is-clause-read
after_terms-returns-then-is-clause-read t c = λ n lt.
    rw (in_empty (term_at n) c.args.close n (parser_state c.args.self.now) c.in_ok-advance.ensures.read (sym c.is.ensures ∙ c.if-is.true)) c.advance-then-is.ensures.read

pub after_terms-loop-self-init : goal.after_terms-loop-self-init
after_terms-loop-self-init t c = record {
  goes = λ n lt. in_begin (term_at n) c.args.close n (parser_state c.args.self.now) c.in_ok-advance.ensures.read (sym c.is.ensures ∙ c.if-is.false) (omega (arith, lt, c.in_ok-advance.ensures.left));
  left = c.in_ok-advance.ensures.left;
  fewer = c.in_ok-advance.ensures.fewer;
}

pub after_terms-returns-in_err-after_term-clause-read : goal.after_terms-returns-in_err-after_term-clause-read
after_terms-returns-in_err-after_term-clause-read t c = λ n lt.
    rw (failed _ _ c.from_residual-in_err-after_term.ensures.1) (terms_fail (term_at n) c.args.close (c.loop-self.invariant.goes n lt) _ (c.in_err-after_term.ensures.read n (is_enough _ n lt c.loop-self.invariant.left c.loop-self.invariant.fewer)))

pub after_terms-returns-then-is-2-clause-read : goal.after_terms-returns-then-is-2-clause-read
after_terms-returns-then-is-2-clause-read t c = λ n lt.
    rw (terms_end (term_at n) c.args.close (c.loop-self.invariant.goes n lt) (c.in_ok-after_term.ensures.read n (is_enough _ n lt c.loop-self.invariant.left c.loop-self.invariant.fewer)) (sym c.is-in-loop-self.ensures ∙ c.if-is-2.true)) c.advance-then-is-2.ensures.read

pub after_terms-returns-then-not-is-clause-read : goal.after_terms-returns-then-not-is-clause-read
after_terms-returns-then-not-is-clause-read t c = λ n lt.
    rw c.fault.ensures (terms_bad (term_at n) c.args.close (c.loop-self.invariant.goes n lt) (c.in_ok-after_term.ensures.read n (is_enough _ n lt c.loop-self.invariant.left c.loop-self.invariant.fewer)) (sym c.is-in-loop-self.ensures ∙ c.if-is-2.false) (sym c.is-in-loop-self-2.ensures ∙ c.if-not-is.true))

pub after_terms-returns-in_err-advance-2-clause-read : goal.after_terms-returns-in_err-advance-2-clause-read
after_terms-returns-in_err-advance-2-clause-read t c = λ n lt.
    rw (failed _ _ c.from_residual-in_err-advance-2.ensures.1) (terms_fail_more (term_at n) c.args.close (c.loop-self.invariant.goes n lt) (c.in_ok-after_term.ensures.read n (is_enough _ n lt c.loop-self.invariant.left c.loop-self.invariant.fewer)) (sym c.is-in-loop-self.ensures ∙ c.if-is-2.false) (sym c.is-in-loop-self-2.ensures ∙ c.if-not-is.false) _ c.in_err-advance-2.ensures.read)

pub after_terms-loop-self-preserved : goal.after_terms-loop-self-preserved
after_terms-loop-self-preserved t c =
    let comma : is_symbol Comma (word_of c.after_term.new.self.token.token) ≡ true = sym c.is-in-loop-self-2.ensures ∙ c.if-not-is.false in
    let fewer : tokens_left c.after_term.new.self < tokens_left c.loop-self.self = c.in_ok-after_term.ensures.fewer (comma_no_end (word_of c.after_term.new.self.token.token) comma) in
    record {
      goes = λ n lt. terms_go (term_at n) c.args.close (c.loop-self.invariant.goes n lt) (c.in_ok-after_term.ensures.read n (is_enough _ n lt c.loop-self.invariant.left c.loop-self.invariant.fewer)) (sym c.is-in-loop-self.ensures ∙ c.if-is-2.false) comma c.in_ok-advance-2.ensures.read (omega (arith, fewer, c.in_ok-advance-2.ensures.left));
      left = omega (arith, fewer, c.in_ok-advance-2.ensures.left, c.loop-self.invariant.left);
      fewer = λ no_end. omega (arith, fewer, c.in_ok-advance-2.ensures.left, c.loop-self.invariant.left);
    }
