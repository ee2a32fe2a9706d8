-- Heard dots decide the order of the meanings of issued operations.
use Rattle.std.proofs.Common.{◌≡◌, true, List, [], ◌∷◌, inl, refl, sym, subst}
use Rattle.dac_model_world.specs.laws.Common.{IsTrue, Operation, StateValue, meaning_of, IsOperationOf, AreOperationsOf, DotsDetermine, is_below, is_below-is}
use Rattle.std.specs.Prelude.{◌↔◌}
use Rattle.std.specs.FinSet as set
use Rattle.dac_origins.specs.Dots.{IsSubset}
use Rattle.dac_model_world.specs.Made.{HeardDotsAreOrder, OneDotIsOrder}
use Rattle.dac_model_world.specs.laws.Operations.{one_in, DistinctDots-agree}
use Rattle.dac_model_world.specs.laws.Meanings.{heard_in, below_where_heard}

-- the order of the meanings of two sets
sets_by_dots : (ops os ps : List Operation) → DotsDetermine ops → AreOperationsOf ps ops → AreOperationsOf os ops → IsTrue (is_below (meaning_of ps) (meaning_of os)) ↔ IsSubset (meaning_of ps).heard (meaning_of os).heard
sets_by_dots ops os ps agree v w = (
  λ t. ((is_below-is (meaning_of ps) (meaning_of os)).1 t).heard,
  λ h. (is_below-is (meaning_of ps) (meaning_of os)).0 (below_where_heard os ps ops w v agree (λ o i. h o.dot (heard_in ps o i))),
)

one_by_dot : (ops os : List Operation) (o : Operation) → DotsDetermine ops → IsOperationOf o ops → AreOperationsOf os ops → IsTrue (is_below (meaning_of (o ∷ [])) (meaning_of os)) ↔ IsTrue (set.contains (meaning_of os).heard o.dot)
one_by_dot ops os o agree there w = (
  λ t. ((is_below-is (meaning_of (o ∷ [])) (meaning_of os)).1 t).heard o.dot (heard_in (o ∷ []) o (inl refl)),
  λ t. (is_below-is (meaning_of (o ∷ [])) (meaning_of os)).0
      (below_where_heard os (o ∷ []) ops w (λ x i. subst (λ (y : Operation). IsOperationOf y ops) (sym (one_in x o i)) there) agree
      (λ x i. subst (λ (y : Operation). set.contains (meaning_of os).heard y.dot ≡ true) (sym (one_in x o i)) t)),
)

pub heard_dots_are_order : HeardDotsAreOrder
heard_dots_are_order ops s u distinct a b =
    subst (λ (p : StateValue × StateValue). IsTrue (is_below p.0 p.1) ↔ IsSubset p.0.heard p.1.heard) (λ i. (sym a.is i, sym b.is i))
    (sets_by_dots ops b.some a.some (DistinctDots-agree ops distinct) a.within b.within)

pub one_dot_is_order : OneDotIsOrder
one_dot_is_order ops o s distinct there b =
    subst (λ (x : StateValue). IsTrue (is_below (meaning_of (o ∷ [])) x) ↔ IsTrue (set.contains x.heard o.dot)) (sym b.is)
    (one_by_dot ops b.some o (DistinctDots-agree ops distinct) there b.within)
