-- Searches that skip the entries below a key.
use Rattle.std.proofs.Common.{◌≡◌, ◌∙◌, true, false, cond, T, List, [], ◌∷◌, None, Some, drop, sym, ap, subst, refl, true≢false}
use Rattle.std.specs.declared.cmp.Ordering.{Ordering}
use Rattle.std.specs.declared.cmp.Ordering.TheVariants.{Less, Equal, Greater}
use Rattle.std.specs.Ordering.{is_eq, is_lt, eq_by_cmp, ordering_reverse}
use Rattle.std.specs.Cmp.{IsTotalOrder}
use Rattle.std.specs.FinMap.{find, is_sorted}
use Rattle.std.specs.FinMap.Entries.{below_all}
use Rattle.std.proofs.lemmas.Cmp.{tied_itself}
use Rattle.std.proofs.lemmas.Map.Lookups.{CmpEqualImpliesEq}
use Rattle.dac_origins.specs.laws.InOrder.{tie}
use Rattle.dac_lattice.specs.Search.{IsInOrder}
use Rattle.dac_lattice.specs.laws.Entries.{find_below, below_more}
use Rattle.dac_lattice.specs.laws.EntryLaws.{first, second}
use Rattle.dac_sorted.specs.Parts.{HasSameFrom}

module _ {K : Type 0} {R : K → K → Ordering} (o : IsTotalOrder R) (exact : CmpEqualImpliesEq R) where
  -- an entry below a key isn't at any key from that one on
  apart : (x key k : K) → R x key ≡ Less → is_lt (R k key) ≡ false → eq_by_cmp R k x ≡ false
  apart x key k below not = elim (eq_by_cmp R k x) as (λ t. eq_by_cmp R k x ≡ t → t ≡ false) [
    | true ↦ λ t. absurd (true≢false (sym (ap is_lt (ap (λ y. R y key) (exact k x (tie (R k x) t)) ∙ below)) ∙ not))
    | false ↦ λ t. refl
  ] refl

  own : (key : K) → is_lt (R key key) ≡ false
  own key = ap is_lt (tied_itself o key)

module _ {K X : Type 0} {R : K → K → Ordering} (o : IsTotalOrder R) (exact : CmpEqualImpliesEq R) where
  -- after skipping an entry below the key
  pub same_past : (key : K) (old now next : List (K × X)) (e : K × X) → now ≡ e ∷ drop 1 now → next ≡ drop 1 now → R e.0 key ≡ Less → HasSameFrom R key old now → HasSameFrom R key old next
  same_past key old now next e is passed below same k not =
      ap (find R k) passed
      ∙ sym (ap (λ t. cond t (Some e.1) (find R k (drop 1 now))) (apart o exact e.0 key k below not))
      ∙ sym (ap (find R k) is)
      ∙ same k not

  pub sorted_past : (now next : List (K × X)) (e : K × X) → now ≡ e ∷ drop 1 now → next ≡ drop 1 now → IsInOrder R now → IsInOrder R next
  sorted_past now next e is passed s = subst (IsInOrder R) (sym passed) (second (below_all R e.0 (drop 1 now)) (is_sorted R (drop 1 now)) (subst (IsInOrder R) is s))

  -- the entry is at the key
  pub found_at : (key : K) (old now : List (K × X)) (e : K × X) → now ≡ e ∷ drop 1 now → R e.0 key ≡ Equal → HasSameFrom R key old now → Some e.1 ≡ find R key old
  found_at key old now e is at same =
      sym (ap (λ r. cond (is_eq r) (Some e.1) (find R key (drop 1 now))) (o.antisymm key e.0 ∙ ap ordering_reverse at))
      ∙ sym (ap (find R key) is)
      ∙ same key (own o exact key)

  -- all remaining entries are above the key
  pub found_none : (key : K) (old now : List (K × X)) (e : K × X) → now ≡ e ∷ drop 1 now → R e.0 key ≡ Greater → IsInOrder R now → HasSameFrom R key old now → None ≡ find R key old
  found_none key old now e is past s same =
      let lower : R key e.0 ≡ Less = o.antisymm key e.0 ∙ ap ordering_reverse past in
      let sorted : T (is_sorted R (e ∷ drop 1 now)) = subst (IsInOrder R) is s in
      let under = below_more o exact key e.0 (drop 1 now) lower (first (below_all R e.0 (drop 1 now)) (is_sorted R (drop 1 now)) sorted) in
      sym (find_below o exact key (drop 1 now) under)
      ∙ sym (ap (λ r. cond (is_eq r) (Some e.1) (find R key (drop 1 now))) lower)
      ∙ sym (ap (find R key) is)
      ∙ same key (own o exact key)

  pub found_end : (key : K) (old now : List (K × X)) → now ≡ [] → HasSameFrom R key old now → None ≡ find R key old
  found_end key old now none same = sym (ap (find R key) none) ∙ same key (own o exact key)
