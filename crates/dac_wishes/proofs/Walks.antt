-- A walk through a list, in terms of the remaining elements.
use Rattle.std.proofs.Common.{◌≡◌, ◌∙◌, ◌<◌, Bool, true, false, ◌&&◌, List, [], ◌∷◌, length, sym, ap, arith, add-one}
use Rattle.std.specs.List.{list_all}

module _ {X : Type 0} where
  -- one element fewer remains
  pub one_fewer : (now next : List X) (e : X) → now ≡ e ∷ next → length next < length now
  one_fewer now next e is =
      let long = ap length is ∙ sym (add-one (length next)) in
      omega (arith, long)

  module _ (p : X → Bool) (b : Bool) where
    -- after an element that passes, all pass exactly if all remaining ones do
    pub all_next : (now next : List X) (e : X) → now ≡ e ∷ next → list_all p now ≡ b → p e ≡ true → list_all p next ≡ b
    all_next now next e is same passes = sym (ap (λ t. t && list_all p next) passes) ∙ sym (ap (list_all p) is) ∙ same

    pub all_not : (now next : List X) (e : X) → now ≡ e ∷ next → list_all p now ≡ b → p e ≡ false → b ≡ false
    all_not now next e is same fails = sym same ∙ ap (list_all p) is ∙ ap (λ t. t && list_all p next) fails

    pub all_done : (now : List X) → now ≡ [] → list_all p now ≡ b → b ≡ true
    all_done now none same = sym same ∙ ap (list_all p) none
