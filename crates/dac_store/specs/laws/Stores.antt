-- Laws of the definitions in `Stores`.
use Rattle.std.specs.Prelude.{◌≡◌, Bool, true, refl, false}
use Rattle.std.proofs.Common.{sym, subst, ◌∙◌, inl, inr}
use Rattle.std.proofs.lemmas.Bool.{false≢true, or_cases, or_left, or_right}
use Rattle.std.specs.FinSet as set
use Rattle.dac_origins.specs.Dots.{Dots, IsSubset, dot_cmp}
use Rattle.dac_origins.specs.laws.Dots.{dots_total, exact_dots}
use Rattle.dac_origins.specs.declared.dot.Dot.{Dot}
use Rattle.dac_lattice.specs.Lattices.{IsLattice}
use Rattle.dac_store.specs.Stores.{IsDotStore, IsStored, IsStoredBelow, IsStoreWithin, Stored, join_stored}

pub subset_left : (c d : Dots) → IsSubset c (set.union c d)
subset_left c d x e = set.contains-union dots_total c d x ∙ or_left (set.contains c x) (set.contains d x) e

pub subset_right : (c d : Dots) → IsSubset d (set.union c d)
subset_right c d x e = set.contains-union dots_total c d x ∙ or_right (set.contains c x) (set.contains d x) e

pub subset_union : (c d e : Dots) → IsSubset c e → IsSubset d e → IsSubset (set.union c d) e
subset_union c d e p q x h = elim (or_cases (set.contains c x) (set.contains d x) (sym (set.contains-union dots_total c d x) ∙ h)) [ inl in_c ↦ p x in_c | inr in_d ↦ q x in_d ]

pub subset_empty : (c : Dots) → IsSubset set.empty c
subset_empty c x e = absurd (false≢true (sym (set.contains-empty dot_cmp x) ∙ e))

-- two tests that imply each other are equal
pub both_ways : (a b : Bool) → (a ≡ true → b ≡ true) → (b ≡ true → a ≡ true) → a ≡ b
both_ways true b f g = sym (f refl)
both_ways false true f g = g refl
both_ways false false f g = refl

pub same_context : (c d : Dots) → IsSubset c d → IsSubset d c → c ≡ d
same_context c d p q = set.same_set dots_total exact_dots c d (λ x. both_ways (set.contains c x) (set.contains d x) (p x) (q x))

module _ {S : Type 0} {is_store : S → Type 0} {has : S → Dot → Bool} {below : S → Dots → S → Dots → Type 0} {join : S → Dots → S → Dots → S} {nothing : S} {is_empty : S → Bool} (laws : IsDotStore is_store has below join nothing is_empty) where
  pub within_join : (s : S) (c : Dots) (t : S) (d : Dots) → IsStoreWithin is_store has s c → IsStoreWithin is_store has t d → IsStoreWithin is_store has (join s c t d) (set.union c d)
  within_join s c t d u v = record {
    store = laws.stored s c t d u.store v.store;
    held = λ x h. elim (or_cases (has s x) (has t x) (laws.comes s c t d x u.store v.store h)) [ inl a ↦ subset_left c d x (u.held x a) | inr b ↦ subset_right c d x (v.held x b) ];
  }

  one_stored : (x y : Stored S) → IsStored is_store has x → IsStored is_store has y → IsStoredBelow below x y → IsStoredBelow below y x → x ≡ y
  one_stored x y u v p q =
      let contexts = same_context x.context y.context p.0 q.0 in
      let u' : IsStoreWithin is_store has x.store y.context = subst (IsStoreWithin is_store has x.store) contexts u in
      let p' : below x.store y.context y.store y.context = subst (λ c. below x.store c y.store y.context) contexts p.1 in
      let q' : below y.store y.context x.store y.context = subst (λ c. below y.store y.context x.store c) contexts q.1 in
      let stores = laws.antisymm x.store y.store y.context u' v p' q' in
      λ i. record { store = stores i; context = contexts i }

  pub causal_laws : IsLattice (IsStored is_store has) (IsStoredBelow below) (join_stored join)
  causal_laws = record {
    refl = λ x u. (λ _ h. h, laws.refl x.store x.context u);
    trans = λ x y z u v w p q. (λ d h. q.0 d (p.0 d h), laws.trans _ _ _ _ _ _ u v w p.0 q.0 p.1 q.1);
    antisymm = one_stored;
    closed = λ x y u v. within_join x.store x.context y.store y.context u v;
    left = λ x y u v. (subset_left x.context y.context, laws.left _ _ _ _ u v);
    right = λ x y u v. (subset_right x.context y.context, laws.right _ _ _ _ u v);
    least = λ x y z u v w p q. (subset_union x.context y.context z.context p.0 q.0, laws.least _ _ _ _ _ _ u v w p.0 q.0 p.1 q.1);
  }

  pub bottom_within : IsStoreWithin is_store has nothing set.empty
  bottom_within = record { store = laws.empty_store; held = λ x e. absurd (false≢true (sym (laws.empty_has x) ∙ e)) }

  pub bottom_least : (v : Stored S) → IsStored is_store has v → IsStoredBelow below (record { store = nothing; context = set.empty }) v
  bottom_least v u = (subset_empty v.context, laws.first v.store v.context u)
