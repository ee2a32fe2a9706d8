use Rattle.std.proofs.Common.{◌++◌, sym, ◌∙◌, ◌∷◌, inl, inr, arith, ap, drop, length}
use Rattle.dac_origins.specs.laws.Basics.{fails_so}
use Rattle.dac_dots.proofs.SpanLemmas.{put_has, put_apart, put_alone}
use Rattle.dac_dots.proofs.spans.put_among.Goals as goal

pub returns-clause-apart : goal.returns-clause-apart
returns-clause-apart c =
    let spans = c.args.spans.now.items in
    let at = rw c.deref.ensures.value at c.place_for-place.ensures in
    let whole = c.in_ok-insert.ensures.items ∙ (λ i. c.absorb_touching-joined.ensures.front i ++ sym c.absorb_touching-joined.ensures.value i) in
    rw whole (put_apart c.args.span spans c.place_for-place.result 0 c.requires.valid (omega arith) at c.requires.apart)

pub returns-clause-ok : goal.returns-clause-ok
returns-clause-ok c n =
    let spans = c.args.spans.now.items in
    let at = rw c.deref.ensures.value at c.place_for-place.ensures in
    let whole = c.in_ok-insert.ensures.items ∙ (λ i. c.absorb_touching-joined.ensures.front i ++ sym c.absorb_touching-joined.ensures.value i) in
    rw whole (put_has c.args.span spans c.place_for-place.result 0 c.requires.valid at c.requires.apart n)

pub returns-in_err-insert-clause-first : goal.returns-in_err-insert-clause-first
returns-in_err-insert-clause-first c = fails_so c.from_residual.result (elim c.absorb_touching-joined.ensures.room [
  | inl same ↦
      let spans = c.args.spans.now.items in
      let at = rw c.deref.ensures.value at c.place_for-place.ensures in
      λ n e. put_alone c.args.span spans c.place_for-place.result c.requires.valid at c.requires.apart (c.absorb_touching-joined.ensures.value ∙ (λ i. same.1 i ∷ drop c.place_for-place.result (same.0 i))) n e
  | inr room ↦ absurd (let full = c.in_err-insert.ensures.full in omega arith)
])

pub returns-in_err-insert-clause-full : goal.returns-in_err-insert-clause-full
returns-in_err-insert-clause-full c =
    let full = c.in_err-insert.ensures.full in
    let capacity = c.absorb_touching-joined.ensures.capacity in
    fails_so c.from_residual.result (elim c.absorb_touching-joined.ensures.room [
      | inl same ↦ (let long = ap length same.0 in omega (arith, full, capacity, long))
      | inr room ↦ absurd (omega (arith, full, room))
    ])
