use Rattle.std.proofs.Common.{◌∙◌, sym}
use Rattle.std.proofs.lemmas.Bool.{false≢true}
use Rattle.dac_wishes.proofs.StandingStoring.{permits_order, starts_order, drains_order}
use Rattle.dac_wishes.proofs.standing.StandingWrites.leq_with_contexts.Goals as goal

pub leq_with_contexts-requires : goal.leq_with_contexts-requires
leq_with_contexts-requires c = rw (c.of-permits.ensures, c.of.ensures) (rw (← c.self.view_is, ← c.other.view_is) at c.requires)

pub leq_with_contexts-requires-2 : goal.leq_with_contexts-requires-2
leq_with_contexts-requires-2 c = rw (c.of-starts.ensures, c.of-2.ensures) (rw (← c.self.view_is, ← c.other.view_is) at c.requires)

pub leq_with_contexts-requires-3 : goal.leq_with_contexts-requires-3
leq_with_contexts-requires-3 c = rw (c.of-drains.ensures, c.of-3.ensures) (rw (← c.self.view_is, ← c.other.view_is) at c.requires)

pub returns-then-not-leq_with_contexts : goal.returns-then-not-leq_with_contexts
returns-then-not-leq_with_contexts c =
    let test = rw (c.of-permits.ensures, c.of.ensures) at c.leq_with_contexts.ensures in
    rw (← c.self.view_is, ← c.other.view_is)
    (λ e. absurd (false≢true e), λ below. absurd (false≢true (sym c.if-not-leq_with_contexts.true ∙ test.1 ((permits_order c.self.invariant c.other.invariant).1 below.permits))))

pub returns-then-not-leq_with_contexts-2 : goal.returns-then-not-leq_with_contexts-2
returns-then-not-leq_with_contexts-2 c =
    let test = rw (c.of-starts.ensures, c.of-2.ensures) at c.leq_with_contexts-2.ensures in
    rw (← c.self.view_is, ← c.other.view_is)
    (λ e. absurd (false≢true e), λ below. absurd (false≢true (sym c.if-not-leq_with_contexts-2.true ∙ test.1 ((starts_order c.self.invariant c.other.invariant).1 below.starts))))

pub returns : goal.returns
returns c =
    let permits = rw (c.of-permits.ensures, c.of.ensures) at c.leq_with_contexts.ensures in
    let starts = rw (c.of-starts.ensures, c.of-2.ensures) at c.leq_with_contexts-2.ensures in
    let drains = rw (c.of-drains.ensures, c.of-3.ensures) at c.leq_with_contexts-3.ensures in
    rw (← c.self.view_is, ← c.other.view_is) (
      λ e. record {
        permits = (permits_order c.self.invariant c.other.invariant).0 (permits.0 c.if-not-leq_with_contexts.false);
        starts = (starts_order c.self.invariant c.other.invariant).0 (starts.0 c.if-not-leq_with_contexts-2.false);
        drains = (drains_order c.self.invariant c.other.invariant).0 (drains.0 e);
      },
      λ below. drains.1 ((drains_order c.self.invariant c.other.invariant).1 below.drains),
    )
