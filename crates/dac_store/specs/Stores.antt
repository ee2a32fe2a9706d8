-- Dot stores: values that contain dots, ordered and joined with causal contexts, as in delta-state CRDTs.
use Rattle.std.specs.Prelude.{◌≡◌, Bool, true, false, ◌||◌}
use Rattle.std.specs.FinSet as set
use Rattle.dac_origins.specs.Dots.{Dots, IsSubset}
use Rattle.dac_origins.specs.declared.dot.Dot.{Dot}

-- each dot of the store is in the context
abbrev pub IsHeld : (Dot → Bool) → Dots → Type 0
IsHeld has c = (x : Dot) → has x ≡ true → set.contains c x ≡ true

-- no dot of the store is in the context
abbrev pub IsUnheard : (Dot → Bool) → Dots → Type 0
IsUnheard has c = (x : Dot) → has x ≡ true → set.contains c x ≡ false

-- two contexts have the same dots of the store
abbrev pub AreAlikeAt : (Dot → Bool) → Dots → Dots → Type 0
AreAlikeAt has c d = (x : Dot) → has x ≡ true → set.contains c x ≡ set.contains d x

-- the store satisfies its invariant, and its dots are in the context
pub record IsStoreWithin {S : Type 0} (is_store : S → Type 0) (has : S → Dot → Bool) (s : S) (c : Dots) : Type 0 where
  pub store : is_store s
  pub held : IsHeld (has s) c

-- The laws of a dot store. `below s c t d` orders s with its context c and t with its context d, and doesn't compare c
-- and d themselves. The context of a join is the union of both.
pub record IsDotStore {S : Type 0} (is_store : S → Type 0) (has : S → Dot → Bool) (below : S → Dots → S → Dots → Type 0)
    (join : S → Dots → S → Dots → S) (nothing : S) (is_empty : S → Bool) : Type 0 where
  pub refl : (s : S) (c : Dots) → IsStoreWithin is_store has s c → below s c s c
  pub trans : (s : S) (c : Dots) (t : S) (d : Dots) (u : S) (e : Dots) → IsStoreWithin is_store has s c
      → IsStoreWithin is_store has t d → IsStoreWithin is_store has u e
      → IsSubset c d → IsSubset d e → below s c t d → below t d u e → below s c u e
  pub antisymm : (s t : S) (c : Dots) → IsStoreWithin is_store has s c → IsStoreWithin is_store has t c → below s c t c
      → below t c s c → s ≡ t
  -- a join is a store, and each of its dots is in one of both stores
  pub stored : (s : S) (c : Dots) (t : S) (d : Dots) → is_store s → is_store t → is_store (join s c t d)
  pub comes : (s : S) (c : Dots) (t : S) (d : Dots) (x : Dot) → is_store s → is_store t → has (join s c t d) x ≡ true
      → (has s x || has t x) ≡ true
  -- the join is the least upper bound
  pub left : (s : S) (c : Dots) (t : S) (d : Dots) → IsStoreWithin is_store has s c → IsStoreWithin is_store has t d
      → below s c (join s c t d) (set.union c d)
  pub right : (s : S) (c : Dots) (t : S) (d : Dots) → IsStoreWithin is_store has s c → IsStoreWithin is_store has t d
      → below t d (join s c t d) (set.union c d)
  pub least : (s : S) (c : Dots) (t : S) (d : Dots) (u : S) (e : Dots) → IsStoreWithin is_store has s c
      → IsStoreWithin is_store has t d → IsStoreWithin is_store has u e
      → IsSubset c e → IsSubset d e → below s c u e → below t d u e → below (join s c t d) (set.union c d) u e
  -- exactly one store has no dots: the empty store
  pub empty_store : is_store nothing
  pub empty_has : (x : Dot) → has nothing x ≡ false
  pub bare : (s : S) → is_store s → ((x : Dot) → has s x ≡ false) → is_empty s ≡ true
  pub one_empty : (s : S) → is_store s → is_empty s ≡ true → s ≡ nothing
  -- the empty store is above each store, and with the empty context below each
  pub cleared : (s : S) (c d : Dots) → is_store s → below s c nothing d
  pub first : (s : S) (c : Dots) → IsStoreWithin is_store has s c → below nothing set.empty s c
  -- a join with the empty store leaves a store unchanged if the other context has none of its dots
  pub alone : (s : S) (c d : Dots) → is_store s → IsUnheard (has s) d → join s c nothing d ≡ s
  pub alone_right : (s : S) (c d : Dots) → is_store s → IsUnheard (has s) d → join nothing d s c ≡ s
  -- the join of a store with itself is that store
  pub again : (s : S) (c d : Dots) → is_store s → join s c s d ≡ s
  -- a store is below itself, with any contexts
  pub same : (s : S) (c d : Dots) → is_store s → below s c s d
  -- a store is above each one whose context has none of its dots
  pub unheard : (s t : S) (c d : Dots) → IsUnheard (has t) c → below s c t d
  -- a join depends on each context only at the dots of the other side's store
  pub alike : (s : S) (c : Dots) (t : S) (d : Dots) (b e : Dots) → is_store s → is_store t → AreAlikeAt (has t) c b → AreAlikeAt (has s) d e
      → join s c t d ≡ join s b t e

-- ---- a dot store paired with its context is a lattice

-- a dot store paired with its causal context
pub record Stored (S : Type 0) : Type 0 where
  pub store : S
  pub context : Dots

-- the store satisfies its invariant, and its dots are in the context
abbrev pub IsStored : {S : Type 0} → (S → Type 0) → (S → Dot → Bool) → Stored S → Type 0
IsStored is_store has v = IsStoreWithin is_store has v.store v.context

-- the contexts are ordered, and so are the stores
abbrev pub IsStoredBelow : {S : Type 0} → (S → Dots → S → Dots → Type 0) → Stored S → Stored S → Type 0
IsStoredBelow below v w = IsSubset v.context w.context × below v.store v.context w.store w.context

-- the union of the contexts, and the join of the stores
abbrev pub join_stored : {S : Type 0} → (S → Dots → S → Dots → S) → Stored S → Stored S → Stored S
join_stored join v w =
    record { store = join v.store v.context w.store w.context; context = set.union v.context w.context }
