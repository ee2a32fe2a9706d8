use Rattle.std.proofs.Common.{◌≡◌, ℕ, List, [], get_or, sym, refl, ap, ◌∙◌, arith}
use Rattle.dac_config.proofs.Common.{false≢true, ext_get_or, length-map}
use Rattle.dac_config.proofs.Alike.{nodes_of, group_at, one_below}
use Rattle.dac_config.proofs.config.alike.same_groups.Goals as goal

pub returns-then-not-same_numbers : goal.returns-then-not-same_numbers
returns-then-not-same_numbers c =
    let here = c.loop-place-test.true in
    let as_long = c.loop-place.invariant.0 in
    let place = c.loop-place.place in (
      λ e. absurd (false≢true e),
      λ same. c.if-not-same_numbers.ensures.1
          (c.deref.ensures.value
          ∙ sym (group_at c.args.one.now place c.index-one-place.result [] c.index-one-place.is here)
          ∙ ap (λ groups. get_or groups place []) same
          ∙ group_at c.args.two.now place c.index-two-place.result [] c.index-two-place.is (omega (arith, here, as_long))
          ∙ sym c.deref-in-loop-place.ensures.value),
    )

pub loop-place-preserved : goal.loop-place-preserved
loop-place-preserved c =
    let here = c.loop-place-test.true in
    let as_long = c.loop-place.invariant.0 in
    let place = c.loop-place.place in (
      as_long,
      one_below (λ k. (d : List ℕ) → get_or (nodes_of c.args.one.now) k d ≡ get_or (nodes_of c.args.two.now) k d) place c.loop-place.invariant.1
          (λ d. group_at c.args.one.now place c.index-one-place.result d c.index-one-place.is here
          ∙ sym c.deref.ensures.value
          ∙ c.if-not-same_numbers.ensures.0 refl
          ∙ c.deref-in-loop-place.ensures.value
          ∙ sym (group_at c.args.two.now place c.index-two-place.result d c.index-two-place.is (omega (arith, here, as_long)))),
    )

pub returns : goal.returns
returns c =
    let up_to = c.loop-place.auto.place-end in
    let past = c.loop-place-test.false in
    let as_long = c.loop-place.invariant.0 in
    let one_long = length-map c.args.one.now (λ group. group.items) in
    let two_long = length-map c.args.two.now (λ group. group.items) in (
      λ _. ext_get_or [] (nodes_of c.args.one.now) (nodes_of c.args.two.now) (one_long ∙ as_long ∙ sym two_long)
          (λ k lt. c.loop-place.invariant.1 k (omega (arith, lt, one_long, up_to, past)) []),
      λ _. refl,
    )
