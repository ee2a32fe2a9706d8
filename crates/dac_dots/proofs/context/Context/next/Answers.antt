use Rattle.std.proofs.Common.{subst, sym}
use Rattle.dac_dots.specs.Rows.{IsGreatest}
use Rattle.dac_dots.proofs.SetLemmas.{last_found, last_none, next_is, used_up}
use Rattle.dac_dots.proofs.context.Context.next.Goals.{in-Some, in-None}
use Rattle.dac_dots.proofs.context.Context.next.Goals as goal

pub returns-then-last-lt-MAX_COUNTER : goal.returns-then-last-lt-MAX_COUNTER
returns-then-last-lt-MAX_COUNTER c =
    next_is c.args.self.now c.args.origin c.match-get.last
    (elim c.match-get.branch [
      | in-Some w ↦ last_found c.self.inside.rows c.args.self.now c.self.view_is c.self.invariant c.args.origin w.in-Some.counters.now c.match-get.last (sym w.in-Some.ensures) (subst (IsGreatest w.in-Some.counters.now) (sym w.last-is) w.last-last.ensures)
      | in-None w ↦ last_none c.self.inside.rows c.args.self.now c.self.view_is c.self.invariant c.args.origin c.match-get.last (sym w.in-None.ensures) w.last-is
    ])
    c.if-last-lt-MAX_COUNTER.true

pub returns-else-last-lt-MAX_COUNTER : goal.returns-else-last-lt-MAX_COUNTER
returns-else-last-lt-MAX_COUNTER c =
    used_up c.args.self.now c.args.origin c.match-get.last
    (elim c.match-get.branch [
      | in-Some w ↦ last_found c.self.inside.rows c.args.self.now c.self.view_is c.self.invariant c.args.origin w.in-Some.counters.now c.match-get.last (sym w.in-Some.ensures) (subst (IsGreatest w.in-Some.counters.now) (sym w.last-is) w.last-last.ensures)
      | in-None w ↦ last_none c.self.inside.rows c.args.self.now c.self.view_is c.self.invariant c.args.origin c.match-get.last (sym w.in-None.ensures) w.last-is
    ])
    c.if-last-lt-MAX_COUNTER.false
