-- The invariants of loops that read items: they begin with nothing, and append one item at a time.
use Rattle.std.proofs.Common.{◌≡◌, ℕ, Bool, true, false, cond, List, [], ◌∷◌, ◌++◌, Option, None, Some, Ok, Err, refl, sym, ap, subst, ◌∙◌}
use Rattle.dac_part_bytes.proofs.Common.{Ordering, IsTotalOrder, tied_itself, find, false≢true, CmpEqualImpliesEq, Dot, Dots, dots_total, exact_dots, in_order, in_order-one, in_order-same, greater, Rest, Field, items_at, with_front, Reaches}
use Rattle.std.specs.Prelude.{Result, IsOk, IfOk, IfErr}
use Rattle.std.specs.Ordering.{ord_max, is_lt, eq_by_cmp}
use Rattle.std.specs.FinSet as set
use Rattle.std.specs.FinMap as map
use Rattle.std.specs.FinMap.Entries.{same_entries, find-append}
use Rattle.std.proofs.lemmas.List.{nil_from_length}
use Rattle.std.proofs.lemmas.Bool.{and_parts}
use Rattle.dac_origins.specs.laws.InOrder.{in_order-rising, tie}
use Rattle.dac_lattice.specs.Lattices.{join_options}
use Rattle.dac_sorted.specs.Appending.{is_above_entries}
use Rattle.dac_sorted.specs.laws.Appending.{rising_appended, sorted_appended}
use Rattle.dac_store.specs.Appending.{is_above_dots}
use Rattle.dac_chains.specs.laws.Greatest.{get-greater}

with_none : {X : Type 0} (read : Field (List X)) → with_front [] read ≡ read
with_none (Ok y) = refl
with_none (Err e) = refl

-- before any item was read
pub starts_with : {K X : Type 0} (R : K → K → Ordering) (key : X → K) (item : Option K → Rest → Field X) (next : X → Option K) (front : List X) (n m : ℕ) (r : Rest) → front ≡ [] → n ≡ m
    → (with_front front (items_at item next n None r) ≡ items_at item next m None r) × Reaches R key None front
starts_with {K} {X} R key item next front n m r none same =
    subst (λ (f : List X). (with_front f (items_at item next n None r) ≡ items_at item next m None r) × Reaches R key None f) (sym none)
    (with_none (items_at item next n None r) ∙ ap (λ (k : ℕ). items_at item next k None r) same, λ k. refl)

-- an item greater than all is appended
pub pushed_is : {A : Type 0} (pushed above : Bool) (new more old : A) → pushed ≡ above → above ≡ true → new ≡ cond pushed more old → new ≡ more
pushed_is pushed above new more old p q e = e ∙ ap (λ b. cond b more old) (p ∙ q)

-- ---- dots in order

pub dots_pushed : (s : Dots) (d : Dot) → is_above_dots s d ≡ true → in_order (set.insert s d) ≡ in_order s ++ d ∷ []
dots_pushed s d above =
    sym (in_order-one dots_total exact_dots (set.insert s d) (in_order s ++ d ∷ []) (rising_appended dots_total (in_order s) d (in_order-rising dots_total exact_dots s) above)
    (set.from_list_push dots_total exact_dots (in_order s) d ∙ ap (λ t. set.insert t d) (in_order-same dots_total exact_dots s)))

-- ---- maps in order

module _ {K V : Type 0} {R : K → K → Ordering} (o : IsTotalOrder R) (exact : CmpEqualImpliesEq R) where
  pub no_entries : map.entries (map.empty {X = V} {R = R}) ≡ []
  no_entries = nil_from_length (map.entries (map.empty {X = V} {R = R})) (sym (map.len-entries (map.empty {X = V} {R = R})) ∙ map.len-empty R V)

  absent : (es : List (K × V)) (k : K) → is_above_entries R es k ≡ true → find R k es ≡ None
  absent [] k h = refl
  absent (e ∷ es) k h = elim (eq_by_cmp R k e.0) as (λ b. eq_by_cmp R k e.0 ≡ b → cond b (Some e.1) (find R k es) ≡ None) [
    | true ↦ λ t.
        let same : k ≡ e.0 = exact k e.0 (tie _ t) in
        absurd (false≢true (ap is_lt (sym (tied_itself o e.0)) ∙ ap (λ q. is_lt (R e.0 q)) (sym same) ∙ (and_parts _ _ h).0))
    | false ↦ λ t. absent es k (and_parts _ _ h).1
  ] refl

  joined_one : (join : V → V → V) (b : Bool) (x : Option V) (v : V) → (b ≡ true → x ≡ None) → join_options join x (cond b (Some v) None) ≡ cond b (Some v) x
  joined_one join true x v none = ap (λ y. join_options join y (Some v)) (none refl)
  joined_one join false None v none = refl
  joined_one join false (Some w) v none = refl

  -- the join of a map with an entry greater than all of its entries appends that entry
  pub entries_joined : (cmp : V → V → Ordering) (m : map.FinMap R V) (k : K) (v : V) → is_above_entries R (map.entries m) k ≡ true → map.entries (greater cmp m (map.insert map.empty k v)) ≡ map.entries m ++ (k, v) ∷ []
  entries_joined cmp m k v above =
      let one : map.FinMap R V = map.insert map.empty k v in
      let both = greater cmp m one in
      let e : K × V = (k, v) in
      let none : find R k (map.entries m) ≡ None = absent (map.entries m) k above in
      same_entries R o exact (map.entries both) (map.entries m ++ e ∷ []) (map.entries_sorted both) (sorted_appended o (map.entries m) e (map.entries_sorted m) above) (λ q.
      sym (map.get-entries both q)
      ∙ get-greater o exact cmp m one q
      ∙ (λ i. join_options (ord_max cmp) (map.get-entries m q i) ((map.get-insert o map.empty k v q ∙ ap (cond (eq_by_cmp R q k) (Some v)) (map.get-empty R q)) i))
      ∙ joined_one (ord_max cmp) (eq_by_cmp R q k) (find R q (map.entries m)) v (λ t. ap (λ x. find R x (map.entries m)) (exact q k (tie _ t)) ∙ none)
      ∙ sym (find-append R o (map.entries m) k v q none))

-- ---- errors that can't occur

-- there is no error if each error contradicts a fact that holds
pub no_error : {X E : Type 0} (P : E → Type 0) (H : Type 0) (r : Result X E) → IfErr r (λ e. P e × ¬ H) → H → IsOk r
no_error P H (Ok x) f h = refl
no_error P H (Err e) f h = absurd (f.1 h)

-- a property of each possible value holds of the value of a result
pub said_of : {X E : Type 0} (P : X → Type 0) (r : Result X E) (x : X) → IfOk r P → r ≡ Ok x → P x
said_of P r x f e = subst (λ s. IfOk s P) e f
