use Rattle.std.proofs.Common.{◌∙◌, ap, subst, sym}
use Rattle.dac_origins.specs.laws.Basics.{fails_so}
use Rattle.dac_dots.specs.Entries.{AreRows, dots_of}
use Rattle.dac_dots.proofs.SetLemmas.{contains_none, contains_there, put_dots, put_first, put_kept, put_there, there_already}
use Rattle.dac_dots.proofs.context.Context.insert.Goals as goal
use Rattle.dac_dots.proofs.context.Context.insert.Goals.{in-Some-2+in_ok-counters-in-Some-2, in-None}

pub returns-in-Some-clause-ok : goal.returns-in-Some-clause-ok
returns-in-Some-clause-ok c =
    there_already c.args.self.now c.args.dot
    (contains_there c.self.inside.rows c.args.self.now c.self.view_is c.self.invariant c.args.dot.origin c.in-Some.counters.now (sym c.in-Some.ensures) c.args.dot.n ∙ sym c.contains.ensures ∙ c.if-contains.true)

pub returns-in_err-counters-in-Some-2-clause-first : goal.returns-in_err-counters-in-Some-2-clause-first
returns-in_err-counters-in-Some-2-clause-first c =
    fails_so c.from_residual.result
    (contains_there c.self.inside.rows c.args.self.now c.self.view_is c.self.invariant c.args.dot.origin c.in-Some.counters.now (sym c.in-Some.ensures) c.args.dot.n ∙ sym c.contains.ensures ∙ c.if-contains.false)

pub returns-in_err-put-clause-first : goal.returns-in_err-put-clause-first
returns-in_err-put-clause-first c =
    fails_so c.from_residual-in_err-put.result
    (elim c.match-get.branch [
      | in-Some-2+in_ok-counters-in-Some-2 w ↦
          contains_there c.self.inside.rows c.args.self.now c.self.view_is c.self.invariant c.args.dot.origin w.in-Some.counters.now (sym w.in-Some.ensures) c.args.dot.n ∙ sym w.contains.ensures ∙ w.if-contains.false
      | in-None w ↦ contains_none c.self.inside.rows c.args.self.now c.self.view_is c.self.invariant c.args.dot.origin (sym w.in-None.ensures) c.args.dot.n
    ])

pub invariant_of-self-2 : goal.invariant_of-self-2
invariant_of-self-2 c =
    subst AreRows (sym c.in_ok-put.ensures.ok)
    (put_kept c.self.inside.rows c.match-get.self-inside.rows c.args.dot c.match-get.counters c.self.invariant
    (elim c.match-get.branch [
      | in-Some-2+in_ok-counters-in-Some-2 w ↦ put_there c.self.inside.rows c.match-get.self-inside.rows c.args.dot c.match-get.counters _ (λ i. (w.self-inside-is i).rows) w.counters-is w.in-Some.counters.now (sym w.in-Some.ensures) w.in_ok-counters-in-Some-2.ensures.rising w.in_ok-counters-in-Some-2.ensures.has
      | in-None w ↦ put_first c.self.inside.rows c.match-get.self-inside.rows c.args.dot c.match-get.counters _ (λ i. (w.self-inside-is i).rows) w.counters-is (sym w.in-None.ensures) w.one-counters.ensures
    ]))

pub returns-clause-ok : goal.returns-clause-ok
returns-clause-ok c =
    ap dots_of c.in_ok-put.ensures.ok
    ∙ put_dots c.self.inside.rows c.match-get.self-inside.rows c.args.dot c.match-get.counters c.self.invariant
    (elim c.match-get.branch [
      | in-Some-2+in_ok-counters-in-Some-2 w ↦ put_there c.self.inside.rows c.match-get.self-inside.rows c.args.dot c.match-get.counters _ (λ i. (w.self-inside-is i).rows) w.counters-is w.in-Some.counters.now (sym w.in-Some.ensures) w.in_ok-counters-in-Some-2.ensures.rising w.in_ok-counters-in-Some-2.ensures.has
      | in-None w ↦ put_first c.self.inside.rows c.match-get.self-inside.rows c.args.dot c.match-get.counters _ (λ i. (w.self-inside-is i).rows) w.counters-is (sym w.in-None.ensures) w.one-counters.ensures
    ])
    c.args.self.now c.self.view_is
