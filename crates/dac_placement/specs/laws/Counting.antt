-- The load as a loop over the applications.
use Rattle.std.proofs.Common.{◌≡◌, ℕ, ◌+◌, ◌<◌, zero, suc, Bool, true, false, cond, ◌&&◌, not, eqb, [], ◌∷◌, length, refl, sym, ap, subst, ◌∙◌, arith, add-one}
use Rattle.std.proofs.lemmas.List.{length-append}
use Rattle.std.proofs.lemmas.List.FromFn.{filter_of_map_range_with_len_more}
use Rattle.dac_base.specs.declared.NodeId.{NodeId}
use Rattle.dac_base.specs.declared.AppId.{AppId}
use Rattle.dac_placement.specs.Choices.{load_by}

abbrev pub numbered_app : ℕ → AppId
numbered_app n = record { 0 = n }

module _ (app : AppId) (node : NodeId) where
  module _ (runs : AppId → NodeId → Bool) where
    -- this is another application that runs at the node
    abbrev pub counts : AppId → Bool
    counts other = not (eqb other.0 app.0) && runs other node

    load_more : (n : ℕ) → load_by runs (n + 1) app node ≡ load_by runs n app node + length (cond (counts (numbered_app n)) (numbered_app n ∷ []) [])
    load_more n = ap length (filter_of_map_range_with_len_more counts numbered_app 0 n n (omega arith)) ∙ length-append _ _

    pub load_counts : (n : ℕ) → counts (numbered_app n) ≡ true → load_by runs (n + 1) app node ≡ load_by runs n app node + 1
    load_counts n e = load_more n ∙ ap (λ b. load_by runs n app node + length (cond b (numbered_app n ∷ []) [])) e

    pub load_passes : (n : ℕ) → counts (numbered_app n) ≡ false → load_by runs (n + 1) app node ≡ load_by runs n app node
    load_passes n e = load_more n ∙ ap (λ b. load_by runs n app node + length (cond b (numbered_app n ∷ []) [])) e ∙ omega arith

  -- where the same applications run, loads are equal
  pub load_alike : (p q : AppId → NodeId → Bool) (n : ℕ) → ((k : ℕ) → k < n → p (numbered_app k) node ≡ q (numbered_app k) node) → load_by p n app node ≡ load_by q n app node
  load_alike p q zero same = refl
  load_alike p q (suc n) same = subst (λ m. load_by p m app node ≡ load_by q m app node) (add-one n)
      (load_more p n ∙ (λ i. load_alike p q n (λ k lt. same k (omega arith)) i + length (cond (not (eqb n app.0) && same n (omega arith) i) (numbered_app n ∷ []) [])) ∙ sym (load_more q n))
