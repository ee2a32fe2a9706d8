-- The join of stores at a key, and the join with a map that has at most one key.
use Rattle.std.proofs.Common.{◌≡◌, Bool, true, false, cond, not, List, [], Option, Some, None, refl, sym, ap, subst, ◌∙◌}
use Rattle.std.specs.declared.cmp.Ordering.{Ordering}
use Rattle.std.specs.declared.cmp.Ordering.TheVariants.{Equal}
use Rattle.std.specs.Ordering.{is_eq, eq_by_cmp}
use Rattle.std.specs.Cmp.{IsTotalOrder}
use Rattle.std.specs.FinMap.{find, put}
use Rattle.std.specs.FinMap.Entries.{find-put, is_sorted-put, is_sorted-where_key, same_entries}
use Rattle.std.proofs.lemmas.Bool.{false≢true}
use Rattle.std.proofs.lemmas.Map.Lookups.{CmpEqualImpliesEq}
use Rattle.dac_origins.specs.Dots.{Dots}
use Rattle.dac_origins.specs.declared.dot.Dot.{Dot}
use Rattle.dac_origins.specs.laws.InOrder.{tie}
use Rattle.dac_lattice.specs.Entries.{Combine, keep}
use Rattle.dac_lattice.specs.Search.{IsInOrder, without}
use Rattle.dac_lattice.specs.laws.Without.{find_without}
use Rattle.dac_lattice.specs.laws.Entries.{find_merge, sorted_merge}
use Rattle.dac_lattice.specs.laws.EntryLaws.{each_entry, each_key}
use Rattle.dac_sorted.specs.Digests.{SaysAll}
use Rattle.dac_store.specs.Absorbing.{AreOthersUnheard, IsOtherUnheard}
use Rattle.dac_store.specs.DotMaps.{IsKept, IsKeyed, join_keyed, store_at, unless_empty}
use Rattle.dac_store.specs.Stores.{IsDotStore}

-- a store with dots that a join leaves unchanged stays
pub stays_whole : {S : Type 0} (is_empty : S → Bool) (s joined : S) → joined ≡ s → is_empty s ≡ false → cond (is_empty joined) None (Some joined) ≡ Some s
stays_whole is_empty s joined same filled = ap (λ t. cond (is_empty t) None (Some t)) same ∙ ap (λ b. cond b None (Some s)) filled

-- each store of a map satisfies its invariant and has dots
pub kept_each : {K S : Type 0} {R : K → K → Ordering} → IsTotalOrder R → CmpEqualImpliesEq R → (is_store : S → Type 0) (is_empty : S → Bool) (m : List (K × S)) → IsKeyed R is_store is_empty m → SaysAll (λ _ s. is_store s × (is_empty s ≡ false)) m
kept_each o exact is_store is_empty m u = each_entry o exact (λ _ v. IsKept is_store is_empty v) m u.in_order u.stores

-- ---- maps that change at a key

module _ {K S : Type 0} {R : K → K → Ordering} (o : IsTotalOrder R) (is_store : S → Type 0) (is_empty : S → Bool) where
  -- a store with dots is put
  pub keyed_put : (m : List (K × S)) (k : K) (v : S) → IsKeyed R is_store is_empty m → is_store v → is_empty v ≡ false → IsKeyed R is_store is_empty (put R k v m)
  keyed_put m k v keyed store dots = record {
    in_order = is_sorted-put R o k v m keyed.in_order;
    stores = λ q. subst (IsKept is_store is_empty) (sym (find-put R o q k v m)) (elim (eq_by_cmp R q k) as (λ t. IsKept is_store is_empty (cond t (Some v) (find R q m))) [ true ↦ (store, dots) | false ↦ keyed.stores q ]);
  }

  -- a key is removed
  pub keyed_without : (m : List (K × S)) (k : K) → IsKeyed R is_store is_empty m → IsKeyed R is_store is_empty (without R k m)
  keyed_without m k keyed = record {
    in_order = is_sorted-where_key R (λ x. not (eq_by_cmp R k x)) m keyed.in_order;
    stores = λ q. subst (IsKept is_store is_empty) (sym (find_without R o q k m)) (elim (eq_by_cmp R q k) as (λ t. IsKept is_store is_empty (cond t None (find R q m))) [ true ↦ tt | false ↦ keyed.stores q ]);
  }

-- ---- the join with one entry

-- at most one entry is in order
one_sorted : {K X : Type 0} (R : K → K → Ordering) (k : K) (w : Option X) → IsInOrder R (keep k w [])
one_sorted R k None = tt
one_sorted R k (Some v) = tt

either : {A : Type 0} (t : Bool) (a : A) → a ≡ cond t a a
either true a = refl
either false a = refl

find_one : {K X : Type 0} (R : K → K → Ordering) (k : K) (w : Option X) (q : K) → find R q (keep k w []) ≡ cond (eq_by_cmp R q k) w None
find_one R k None q = either (eq_by_cmp R q k) None
find_one R k (Some v) q = refl

module _ {K S : Type 0} {R : K → K → Ordering} (o : IsTotalOrder R) (exact : CmpEqualImpliesEq R) {is_store : S → Type 0} {has : S → Dot → Bool} {below : S → Dots → S → Dots → Type 0} {join : S → Dots → S → Dots → S} {nothing : S} {is_empty : S → Bool} (laws : IsDotStore is_store has below join nothing is_empty) (c d : Dots) where
  abbrev f : Combine K S
  f _ v w = unless_empty is_empty (join (store_at nothing v) c (store_at nothing w) d)

  none : (q : K) → f q None None ≡ None
  none q =
      ap (unless_empty is_empty) (laws.alone nothing c d laws.empty_store (λ x h. absurd (false≢true (sym (laws.empty_has x) ∙ h))))
      ∙ ap (λ b. cond b None (Some nothing)) (laws.bare nothing laws.empty_store laws.empty_has)

  stays : (k q : K) (v : Option S) → (R q k ≡ Equal → ⊥) → IsKept is_store is_empty v → IsOtherUnheard R has k d q v → v ≡ f q v None
  stays k q None apart kept other = sym (none q)
  stays k q (Some s) apart kept other = sym (stays_whole is_empty s _ (laws.alone s c d kept.0 (other apart)) kept.1)

  -- the join with a map that has at most one key changes the store at that key alone
  changes_one : (m new : List (K × S)) (k : K) (w : Option S) (j : S) → IsKeyed R is_store is_empty m → AreOthersUnheard R has k d m → j ≡ join (store_at nothing (find R k m)) c (store_at nothing w) d → IsInOrder R new
      → ((q : K) → find R q new ≡ cond (eq_by_cmp R q k) (unless_empty is_empty j) (find R q m)) → new ≡ join_keyed R nothing is_empty join m c (keep k w []) d
  changes_one m new k w j keyed others is sorted each =
      same_entries R o exact _ _ sorted (sorted_merge o exact f m (keep k w []) keyed.in_order (one_sorted R k w)) (λ q.
      each q
      ∙ elim (eq_by_cmp R q k) as (λ t. eq_by_cmp R q k ≡ t → cond t (unless_empty is_empty j) (find R q m) ≡ f q (find R q m) (cond t w None)) [
        | true ↦ λ t. subst (λ x. unless_empty is_empty j ≡ unless_empty is_empty (join (store_at nothing (find R x m)) c (store_at nothing w) d)) (sym (exact q k (tie _ t))) (ap (unless_empty is_empty) is)
        | false ↦ λ t. stays k q (find R q m) (λ e. false≢true (sym t ∙ ap is_eq e)) (keyed.stores q) (each_key o exact (IsOtherUnheard R has k d) (λ _. tt) m others q)
      ] refl
      ∙ sym (ap (f q (find R q m)) (find_one R k w q))
      ∙ sym (find_merge o exact f none q m (keep k w []) keyed.in_order (one_sorted R k w)))

  -- an entry is put, the others stay
  pub absorbed : (m : List (K × S)) (k : K) (w : Option S) (j : S) → IsKeyed R is_store is_empty m → AreOthersUnheard R has k d m → j ≡ join (store_at nothing (find R k m)) c (store_at nothing w) d → is_empty j ≡ false
      → put R k j m ≡ join_keyed R nothing is_empty join m c (keep k w []) d
  absorbed m k w j keyed others is dots =
      changes_one m (put R k j m) k w j keyed others is (is_sorted-put R o k j m keyed.in_order) (λ q.
      find-put R o q k j m ∙ ap (λ b. cond (eq_by_cmp R q k) (cond b None (Some j)) (find R q m)) (sym dots))

  -- an entry is removed, the others stay
  pub dropped : (m : List (K × S)) (k : K) (w : Option S) (j : S) → IsKeyed R is_store is_empty m → AreOthersUnheard R has k d m → j ≡ join (store_at nothing (find R k m)) c (store_at nothing w) d → is_empty j ≡ true
      → without R k m ≡ join_keyed R nothing is_empty join m c (keep k w []) d
  dropped m k w j keyed others is bare =
      changes_one m (without R k m) k w j keyed others is (is_sorted-where_key R (λ x. not (eq_by_cmp R k x)) m keyed.in_order) (λ q.
      find_without R o q k m ∙ ap (λ b. cond (eq_by_cmp R q k) (cond b None (Some j)) (find R q m)) (sym bare))
