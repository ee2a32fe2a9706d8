use Rattle.std.proofs.Common.{◌≡◌, Bool, true, false, not, ◌&&◌, ◌||◌, refl, sym, ap, subst, ◌∙◌}
use Rattle.std.specs.Cmp.{Equal-is}
use Rattle.std.specs.Ordering.{is_eq, eq_by_cmp}
use Rattle.dac_origins.specs.Dots.{dot_cmp}
use Rattle.dac_origins.specs.laws.Dots.{exact_dots}
use Rattle.dac_origins.specs.Keys.{IsRising, has_key}
use Rattle.dac_origins.specs.declared.dot.Dot.{Dot}
use Rattle.dac_store.specs.Few.{dots_of}
use Rattle.dac_store.proofs.few.FewDots.remove.Goals as goal

taken : (e : Bool) → false ≡ (not e && (e || false))
taken true = refl
taken false = refl

not_taken : (h e : Bool) → (h ≡ true → e ≡ false) → (h || false) ≡ (not e && (h || false))
not_taken true e f = sym (ap (λ x. not x && true) (f refl))
not_taken false true f = refl
not_taken false false f = refl

none_left : (e : Bool) → false ≡ (not e && false)
none_left true = refl
none_left false = refl

one_dot : (a b : Dot) → eq_by_cmp dot_cmp a b ≡ true → a ≡ b
one_dot a b e = exact_dots a b ((Equal-is (dot_cmp a b)).0 e)

pub remove_key-requires : goal.remove_key-requires
remove_key-requires c = subst (λ few. IsRising dot_cmp (dots_of few)) c.in-Sorted.is c.requires

pub returns-in-Empty-clause-rising : goal.returns-in-Empty-clause-rising
returns-in-Empty-clause-rising c = c.requires

pub returns-in-Empty-clause-value : goal.returns-in-Empty-clause-value
returns-in-Empty-clause-value c q =
    let none = ap (λ few. has_key dot_cmp (dots_of few) q) c.in-Empty.is in
    none ∙ (none_left (eq_by_cmp dot_cmp q c.args.dot) ∙ ap (λ b. not (eq_by_cmp dot_cmp q c.args.dot) && b) (sym none))

pub returns-then-is_eq-clause-rising : goal.returns-then-is_eq-clause-rising
returns-then-is_eq-clause-rising c = refl

pub returns-then-is_eq-clause-value : goal.returns-then-is_eq-clause-value
returns-then-is_eq-clause-value c q =
    let dot = c.args.dot in
    let same = one_dot c.in-One.single dot (sym (c.is_eq.ensures ∙ ap is_eq c.cmp.ensures) ∙ c.if-is_eq.true) in
    taken (eq_by_cmp dot_cmp q dot)
    ∙ ap (λ x. not (eq_by_cmp dot_cmp q dot) && (eq_by_cmp dot_cmp q x || false)) (sym same)
    ∙ ap (λ few. not (eq_by_cmp dot_cmp q dot) && has_key dot_cmp (dots_of few) q) (sym c.in-One.is)

pub returns-else-is_eq-clause-rising : goal.returns-else-is_eq-clause-rising
returns-else-is_eq-clause-rising c = refl

pub returns-else-is_eq-clause-value : goal.returns-else-is_eq-clause-value
returns-else-is_eq-clause-value c q =
    let dot = c.args.dot in
    let single = c.in-One.single in
    let other = sym (c.is_eq.ensures ∙ ap is_eq c.cmp.ensures) ∙ c.if-is_eq.false in
    not_taken (eq_by_cmp dot_cmp q single) (eq_by_cmp dot_cmp q dot) (λ e. ap (λ x. eq_by_cmp dot_cmp x dot) (one_dot q single e) ∙ other)
    ∙ ap (λ few. not (eq_by_cmp dot_cmp q dot) && has_key dot_cmp (dots_of few) q) (sym c.in-One.is)

pub returns-in-Sorted-clause-rising : goal.returns-in-Sorted-clause-rising
returns-in-Sorted-clause-rising c = c.remove_key.ensures.rising

pub returns-in-Sorted-clause-value : goal.returns-in-Sorted-clause-value
returns-in-Sorted-clause-value c q =
    c.remove_key.ensures.value q ∙ ap (λ few. not (eq_by_cmp dot_cmp q c.args.dot) && has_key dot_cmp (dots_of few) q) (sym c.in-Sorted.is)
