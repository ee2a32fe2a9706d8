use Rattle.std.proofs.Common.{◌∙◌, ◌≡◌, inl, inr, true, false, not, [], ◌∷◌, ap, sym, refl, arith}
use Rattle.std.proofs.lemmas.Bool.{false≢true, or_cases, not-true}
use Rattle.std.proofs.lemmas.List.Elements.{All-more}
use Rattle.std.specs.FinSet as set
use Rattle.std.specs.Ordering.{eq_by_cmp}
use Rattle.dac_origins.specs.Dots.{dot_cmp}
use Rattle.dac_origins.specs.laws.Dots.{dots_total, exact_dots}
use Rattle.dac_origins.specs.laws.InOrder.{in_order-same, tie}
use Rattle.dac_origins.specs.laws.KeyLaws.{each_member, has_is, member_at}
use Rattle.dac_origins.specs.declared.Dot.{Dot}
use Rattle.dac_store.specs.Few.{dots_of}
use Rattle.dac_store.proofs.dot_set.DotSetDotStore.is_unheard.Goals as goal

pub loop-dot-preserved : goal.loop-dot-preserved
loop-dot-preserved c = All-more (λ x. set.contains c.args.heard.now x ≡ false) _ _ _ c.loop-dot-test.true c.loop-dot.invariant (sym c.contains-in-loop-dot.ensures ∙ c.if-contains.false)

pub returns-then-contains : goal.returns-then-contains
returns-then-contains c = (
  λ e. absurd (false≢true e),
  λ unheard. absurd (false≢true (sym (unheard _
      (member_at dots_total c.dots-dot-items.result.now c.args.self.now (rw c.dots-dot-items.ensures (in_order-same dots_total exact_dots c.args.self.now)) _ _ c.loop-dot-test.true)) ∙ sym c.contains-in-loop-dot.ensures ∙ c.if-contains.true)),
)

pub returns : goal.returns
returns c =
    (λ _. each_member dots_total exact_dots c.dots-dot-items.result.now c.args.self.now (rw c.dots-dot-items.ensures (in_order-same dots_total exact_dots c.args.self.now)) (λ x. set.contains c.args.heard.now x ≡ false) _ c.loop-dot-test.false c.loop-dot.invariant, λ _. refl)

pub returns-in-One : goal.returns-in-One
returns-in-One c =
    let one = c.in-One.dot in
    let now = c.args.self.now in
    let heard = c.args.heard.now in
    let view : set.from_list (one ∷ []) ≡ now = ap (λ few. set.from_list (dots_of few)) (sym c.in-One.is) ∙ c.self.view_is in
    let same : (x : Dot) → set.contains now x ≡ true → x ≡ one = λ x e. elim (or_cases (eq_by_cmp dot_cmp x one) false (has_is dots_total (one ∷ []) now view x ∙ e)) [ inl at ↦ exact_dots x one (tie _ at) | inr none ↦ absurd (false≢true none) ] in (
      λ e x h. ap (λ (q : Dot). set.contains heard q) (same x h) ∙ sym c.contains.ensures ∙ not-true c.contains.result e,
      λ unheard. ap not (c.contains.ensures ∙ unheard one (member_at dots_total (one ∷ []) now view 0 one (omega arith))),
    )
