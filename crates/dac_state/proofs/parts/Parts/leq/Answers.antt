use Rattle.std.proofs.Common.{◌∙◌, sym}
use Rattle.std.proofs.lemmas.Bool.{false≢true, iff_false}
use Rattle.dac_state.proofs.parts.Parts.leq.Goals as goal

pub leq-requires : goal.leq-requires
leq-requires c = rw c.known-known.ensures c.self.invariant.heard

pub leq_with_contexts-requires : goal.leq_with_contexts-requires
leq_with_contexts-requires c = ((rw (c.known-known.ensures, c.known.ensures) at c.leq.ensures).0 c.if-not-leq.false).0

pub returns-then-not-leq : goal.returns-then-not-leq
returns-then-not-leq c =
    rw (← c.self.view_is, ← c.other.view_is)
    (λ e. absurd (false≢true e), λ below. absurd (iff_false (rw (c.known-known.ensures, c.known.ensures) at c.leq.ensures) c.if-not-leq.true (below.starts.known, below.heard)))

pub returns-then-not-leq_with_contexts : goal.returns-then-not-leq_with_contexts
returns-then-not-leq_with_contexts c =
    rw (← c.self.view_is, ← c.other.view_is)
    (λ e. absurd (false≢true e), λ below. absurd (iff_false c.leq_with_contexts.ensures c.if-not-leq_with_contexts.true (record { permits = below.permits; starts = below.starts; drains = below.drains })))

pub returns-then-leq : goal.returns-then-leq
returns-then-leq c = rw (← c.self.view_is, ← c.other.view_is) (
  λ e.
      let stand = c.leq_with_contexts.ensures.0 c.if-not-leq_with_contexts.false in
      record {
        heard = ((rw (c.known-known.ensures, c.known.ensures) at c.leq.ensures).0 c.if-not-leq.false).1;
        permits = stand.permits;
        starts = stand.starts;
        lives = c.leq-2.ensures.0 c.if-leq.true;
        claims = c.leq-then-leq.ensures.0 e;
        drains = stand.drains;
      },
  λ below. c.leq-then-leq.ensures.1 below.claims,
)

pub returns-else-leq : goal.returns-else-leq
returns-else-leq c = rw (← c.self.view_is, ← c.other.view_is) (
  λ e. absurd (false≢true (sym c.if-leq.false ∙ e)),
  λ below. c.leq-2.ensures.1 below.lives,
)
