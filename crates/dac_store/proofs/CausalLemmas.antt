-- Joins of a store with its context that are known without a join.
use Rattle.std.proofs.Common.{◌≡◌, Bool, refl, sym, ap, ◌∙◌}
use Rattle.std.specs.FinSet as set
use Rattle.dac_origins.specs.Dots.{Dots, dot_cmp}
use Rattle.dac_origins.specs.declared.dot.Dot.{Dot}
use Rattle.dac_store.specs.Stores.{IsDotStore, IsUnheard}

module _ {S : Type 0} {is_store : S → Type 0} {has : S → Dot → Bool} {below : S → Dots → S → Dots → Type 0} {join : S → Dots → S → Dots → S} {nothing : S} {is_empty : S → Bool} (laws : IsDotStore is_store has below join nothing is_empty) where
  -- the other side has nothing, and knows none of the dots
  pub join_stays : (s : S) (c : Dots) (t : S) (d : Dots) → is_store s → t ≡ nothing → IsUnheard (has s) d → s ≡ join s c t d
  join_stays s c t d u none unheard = sym (ap (λ t. join s c t d) none ∙ laws.alone s c d u unheard)

  -- this side knows none of the other's dots
  pub join_fresh : (s : S) (c : Dots) (t : S) (d : Dots) → is_store s → is_store t → IsUnheard (has t) c → join s set.empty t d ≡ join s c t d
  join_fresh s c t d u v unheard = sym (laws.alike s c t d set.empty d u v (λ x h. unheard x h ∙ sym (set.contains-empty dot_cmp x)) (λ x h. refl))
