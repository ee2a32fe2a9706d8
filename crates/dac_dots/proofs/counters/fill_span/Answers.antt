use Rattle.std.proofs.Common.{◌≡◌, ℕ, inl, inr, true, subst, arith}
use Rattle.std.proofs.lemmas.Bool.{and_parts, cases_lt, leb-true}
use Rattle.dac_origins.specs.Dots.{dot}
use Rattle.dac_dots.specs.DotFilters.{may_have}
use Rattle.dac_dots.proofs.counters.fill_span.Goals as goal

pub loop-n-preserved : goal.loop-n-preserved
loop-n-preserved c = record {
  own = λ m low high. elim (cases_lt m c.loop-n.n) [
    | inl before ↦ c.put.ensures.more (dot c.args.origin m) (c.loop-n.invariant.own m low before)
    | inr here ↦ subst (λ (k : ℕ). may_have c.put.new.self.slots (dot c.args.origin k) ≡ true) (omega arith) c.put.ensures.own
  ];
  more = λ q e. c.put.ensures.more q (c.loop-n.invariant.more q e);
}

pub returns-clause-own : goal.returns-clause-own
returns-clause-own c n e =
    let parts = and_parts _ _ e in
    let low = leb-true c.args.span.first n parts.0 in
    let high = leb-true n c.args.span.last parts.1 in
    let past = c.loop-n-test.false in
    elim (cases_lt n c.args.span.last) [
      | inl before ↦ c.put-2.ensures.more (dot c.args.origin n) (c.loop-n.invariant.own n low (omega (arith, past, before)))
      | inr here ↦ subst (λ (k : ℕ). may_have c.put-2.new.self.slots (dot c.args.origin k) ≡ true) (omega (arith, here, high)) c.put-2.ensures.own
    ]
