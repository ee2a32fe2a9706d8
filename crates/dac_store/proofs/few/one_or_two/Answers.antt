use Rattle.std.proofs.Common.{◌≡◌, Bool, true, false, ◌&&◌, ◌||◌, List, [], ◌∷◌, refl, sym, ap, subst, ◌∙◌}
use Rattle.std.proofs.lemmas.Result.{IfOk-weaker}
use Rattle.std.specs.declared.cmp.Ordering.TheVariants.{Less}
use Rattle.std.specs.Ordering.{is_lt, eq_by_cmp, ordering_reverse}
use Rattle.dac_origins.specs.Dots.{dot_cmp}
use Rattle.dac_origins.specs.laws.Dots.{dots_total, exact_dots}
use Rattle.dac_origins.specs.Keys.{IsRising, has_key}
use Rattle.dac_origins.specs.declared.dot.Dot.{Dot}
use Rattle.dac_store.specs.Few.{dots_of}
use Rattle.dac_store.proofs.few.one_or_two.Goals as goal

two_rise : (a b : Dot) → dot_cmp a b ≡ Less → IsRising dot_cmp (a ∷ b ∷ [])
two_rise a b e = ap (λ r. (is_lt r && true) && true) e

turned : (a b : Bool) → (a || (b || false)) ≡ (b || (a || false))
turned true true = refl
turned true false = refl
turned false true = refl
turned false false = refl

doubled : (a : Bool) → (a || false) ≡ (a || (a || false))
doubled true = refl
doubled false = refl

-- the required properties of the dots with one more
abbrev HasMore : Dot → Dot → List Dot → Type 0
HasMore dot single ds = (q : Dot) → has_key dot_cmp ds q ≡ (eq_by_cmp dot_cmp q dot || has_key dot_cmp (single ∷ []) q)

pub returns-in-Less-clause-rising : goal.returns-in-Less-clause-rising
returns-in-Less-clause-rising c =
    IfOk-weaker c.two.result (λ both. dots_of both ≡ c.args.single ∷ c.args.dot ∷ []) _ (λ both is. subst (IsRising dot_cmp) (sym is) (two_rise c.args.single c.args.dot (sym c.cmp.ensures ∙ c.in-Less.is))) c.two.ensures

pub returns-in-Less-clause-ok : goal.returns-in-Less-clause-ok
returns-in-Less-clause-ok c =
    let single = c.args.single in
    let dot = c.args.dot in
    IfOk-weaker c.two.result (λ both. dots_of both ≡ single ∷ dot ∷ []) _ (λ both is. subst (HasMore dot single) (sym is) (λ q. turned (eq_by_cmp dot_cmp q single) (eq_by_cmp dot_cmp q dot))) c.two.ensures

pub returns-in-Equal-clause-rising : goal.returns-in-Equal-clause-rising
returns-in-Equal-clause-rising c = refl

pub returns-in-Equal-clause-ok : goal.returns-in-Equal-clause-ok
returns-in-Equal-clause-ok c q =
    let same = exact_dots c.args.single c.args.dot (sym c.cmp.ensures ∙ c.in-Equal.is) in
    doubled (eq_by_cmp dot_cmp q c.args.dot) ∙ ap (λ x. eq_by_cmp dot_cmp q c.args.dot || (eq_by_cmp dot_cmp q x || false)) (sym same)

pub returns-in-Greater-clause-rising : goal.returns-in-Greater-clause-rising
returns-in-Greater-clause-rising c =
    let single = c.args.single in
    let dot = c.args.dot in
    let less = dots_total.antisymm dot single ∙ ap ordering_reverse (sym c.cmp.ensures ∙ c.in-Greater.is) in
    IfOk-weaker c.two-in-Greater.result (λ both. dots_of both ≡ dot ∷ single ∷ []) _ (λ both is. subst (IsRising dot_cmp) (sym is) (two_rise dot single less)) c.two-in-Greater.ensures

pub returns-in-Greater-clause-ok : goal.returns-in-Greater-clause-ok
returns-in-Greater-clause-ok c =
    let single = c.args.single in
    let dot = c.args.dot in
    IfOk-weaker c.two-in-Greater.result (λ both. dots_of both ≡ dot ∷ single ∷ []) _ (λ both is. subst (HasMore dot single) (sym is) (λ q. refl)) c.two-in-Greater.ensures
