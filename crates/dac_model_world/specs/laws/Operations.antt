-- Sets of issued operations: their dots are distinct, and a new operation's is new.
use Rattle.std.proofs.Common.{◌≡◌, Bool, true, false, ◌||◌, inl, inr, List, [], ◌∷◌, ◌++◌, refl, sym, ap, subst, ◌∙◌, true≢false}
use Rattle.dac_model_world.specs.laws.Common.{list_any, false_from_ne_true, Dot, same_dot, same_dot_is, same_dot_itself, Operation, IsOperationOf, AreOperationsOf, DotsDetermine, has_dot, finds, In-append_right, DistinctDots}
use Rattle.std.proofs.lemmas.List.Folds.{list_any-append}

pub one_in : (o x : Operation) → IsOperationOf o (x ∷ []) → o ≡ x
one_in o x (inl e) = e
one_in o x (inr h) = absurd h

pub Agree-within : (os ps : List Operation) → AreOperationsOf os ps → DotsDetermine ps → DotsDetermine os
Agree-within os ps w agree o p a b = agree o p (w o a) (w p b)

-- ---- distinct dots
same_by : (d e : Dot) → d ≡ e → same_dot d e ≡ true
same_by d e h = subst (λ f. same_dot d f ≡ true) h (same_dot_itself d)

pub DistinctDots-agree : (os : List Operation) → DistinctDots os → DotsDetermine os
DistinctDots-agree [] d o p a b t = absurd a
DistinctDots-agree (x ∷ os) d o p (inl a) (inl b) t = a ∙ sym b
DistinctDots-agree (x ∷ os) d o p (inl a) (inr b) t = absurd (true≢false (sym (finds (has_dot x.dot) os p b (same_by x.dot p.dot (ap (λ (y : Operation). y.dot) (sym a) ∙ t))) ∙ d.0))
DistinctDots-agree (x ∷ os) d o p (inr a) (inl b) t = absurd (true≢false (sym (finds (has_dot x.dot) os o a (same_by x.dot o.dot (ap (λ (y : Operation). y.dot) (sym b) ∙ sym t))) ∙ d.0))
DistinctDots-agree (x ∷ os) d o p (inr a) (inr b) t = DistinctDots-agree os d.1 o p a b t

either_false_left : (a b : Bool) → (a || b) ≡ false → a ≡ false
either_false_left true b h = h
either_false_left false b h = refl

either_false_right : (a b : Bool) → (a || b) ≡ false → b ≡ false
either_false_right true b h = absurd (true≢false h)
either_false_right false b h = h

apart : (d e : Dot) → same_dot e d ≡ false → same_dot d e ≡ false
apart d e h = false_from_ne_true (same_dot d e) (λ t. true≢false (sym (same_by e d (sym (same_dot_is d e t))) ∙ h))

pub DistinctDots-push : (os : List Operation) (o : Operation) → DistinctDots os → list_any (has_dot o.dot) os ≡ false → DistinctDots (os ++ o ∷ [])
DistinctDots-push [] o d none = (refl, tt)
DistinctDots-push (x ∷ os) o d none = (
  list_any-append (has_dot x.dot) os (o ∷ []) ∙ (ap (λ b. b || (same_dot x.dot o.dot || false)) d.0 ∙ ap (λ b. b || false) (apart x.dot o.dot (either_false_left (same_dot o.dot x.dot) (list_any (has_dot o.dot) os) none))),
  DistinctDots-push os o d.1 (either_false_right (same_dot o.dot x.dot) (list_any (has_dot o.dot) os) none),
)

pub DistinctDots-left : (os ps : List Operation) → DistinctDots (os ++ ps) → DistinctDots os
DistinctDots-left [] ps d = tt
DistinctDots-left (x ∷ os) ps d = (either_false_left (list_any (has_dot x.dot) os) (list_any (has_dot x.dot) ps) (sym (list_any-append (has_dot x.dot) os ps) ∙ d.0), DistinctDots-left os ps d.1)

-- none of the first operations is one of the others
pub DistinctDots-apart : (os ps : List Operation) → DistinctDots (os ++ ps) → (o : Operation) → IsOperationOf o os → IsOperationOf o ps → ⊥
DistinctDots-apart [] ps d o a b = absurd a
DistinctDots-apart (x ∷ os) ps d o (inl e) b = true≢false (sym (finds (has_dot x.dot) (os ++ ps) o (In-append_right o os ps b) (same_by x.dot o.dot (ap (λ (y : Operation). y.dot) (sym e)))) ∙ d.0)
DistinctDots-apart (x ∷ os) ps d o (inr a) b = DistinctDots-apart os ps d.1 o a b
