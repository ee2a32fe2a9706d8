use Rattle.std.proofs.Common.{◌≡◌, ◌||◌, ◌∙◌, ℕ, inl, inr, true, subst, sym, arith}
use Rattle.std.specs.FinSet as set
use Rattle.std.proofs.lemmas.Bool.{and_parts, cases_lt, leb-true}
use Rattle.dac_origins.specs.Dots.{dot}
use Rattle.dac_dots.proofs.counters.span_within_both.Goals as goal

pub loop-n-preserved : goal.loop-n-preserved
loop-n-preserved c m low high = elim (cases_lt m c.loop-n.n) [
  | inl before ↦ c.loop-n.invariant m low before
  | inr here ↦ subst (λ (k : ℕ). (set.contains c.args.first.now (dot c.args.origin k) || set.contains c.args.second.now (dot c.args.origin k)) ≡ true) (omega arith) (sym c.is_in_either.ensures ∙ c.if-not-is_in_either.false)
]

pub returns : goal.returns
returns c held n e =
    let parts = and_parts _ _ e in
    let low = leb-true c.args.span.first n parts.0 in
    let high = leb-true n c.args.span.last parts.1 in
    let past = c.loop-n-test.false in
    elim (cases_lt n c.args.span.last) [
      | inl before ↦ c.loop-n.invariant n low (omega (arith, past, before))
      | inr here ↦ subst (λ (k : ℕ). (set.contains c.args.first.now (dot c.args.origin k) || set.contains c.args.second.now (dot c.args.origin k)) ≡ true) (omega (arith, here, high)) (sym c.is_in_either-2.ensures ∙ held)
    ]
