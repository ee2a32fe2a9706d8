-- Two iterators over entries at once.
use Rattle.std.proofs.Common.{◌≡◌, List, [], ◌∷◌, length, sym, ap, ◌∙◌, arith}

module _ {E : Type 0} where
  -- lists are equal if their first elements and their tails are
  pub same_first : (old new next after : List E) (e f : E) → old ≡ e ∷ next → new ≡ f ∷ after → e ≡ f → next ≡ after → old ≡ new
  same_first old new next after e f is also same rest = is ∙ (λ i. same i ∷ rest i) ∙ sym also

  -- the tails of lists of equal length have equal length
  pub still_as_many : (old new next after : List E) (e f : E) → old ≡ e ∷ next → new ≡ f ∷ after → length old ≡ length new → length next ≡ length after
  still_as_many old new next after e f is also same =
      let long = ap length is in
      let long_too = ap length also in
      omega (arith, long, long_too)

  pub same_end : (now other : List E) → now ≡ [] → length now ≡ length other → now ≡ other
  same_end now [] none same = none
  same_end now (x ∷ other) none same = let more = sym same ∙ ap length none in absurd (omega (arith, more))
