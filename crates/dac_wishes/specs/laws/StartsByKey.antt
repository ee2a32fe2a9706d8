-- Laws of the definitions in `StartsByKey`.
use Rattle.std.specs.Prelude.{◌≡◌, Bool, true, false, not, cond, ◌&&◌, ◌||◌, T, List, [], ◌∷◌, None, Some, nat_eq, refl}
use Rattle.std.proofs.Common.{sym, ap, ◌∙◌}
use Rattle.std.specs.List.{list_any, flat_map}
use Rattle.std.specs.Ordering.{eq_by_cmp, is_eq}
use Rattle.std.specs.FinSet as set
use Rattle.std.specs.FinMap.{find, is_sorted}
use Rattle.std.specs.FinMap.Entries.{same_entries}
use Rattle.std.specs.Cmp.{tied_itself}
use Rattle.std.proofs.lemmas.Bool.{eqb-true, false_from_ne_true, false≢true, or_left}
use Rattle.dac_origins.specs.declared.dot.Dot.{Dot}
use Rattle.dac_origins.specs.Dots.{Dots, dot_cmp}
use Rattle.dac_origins.specs.laws.Dots.{dots_total, exact_dots}
use Rattle.dac_origins.specs.Keys.{has_key}
use Rattle.dac_origins.specs.laws.Basics.{list_any-list_map, list_any-flat_map}
use Rattle.dac_lattice.specs.Chains.{IsAny}
use Rattle.dac_lattice.specs.laws.Entries.{find_below}
use Rattle.dac_lattice.specs.laws.EntryLaws.{first, second}
use Rattle.dac_store.specs.DotFuns.{is_empty_list}
use Rattle.dac_store.specs.DotSets.{is_empty_set}
use Rattle.dac_store.specs.DotMaps.{store_at, unless_empty}
use Rattle.dac_wishes.specs.declared.key.Key.{Key}
use Rattle.dac_wishes.specs.Keys.{key_cmp, same_key}
use Rattle.dac_wishes.specs.laws.Keys.{keys_total, exact_keys, same_key_is}
use Rattle.dac_wishes.specs.Writes.{Write, Writes, write, write_cmp, same_dot, dots_among, dots_at}
use Rattle.dac_wishes.specs.laws.Writes.{writes_total, exact_writes, same_write, contains-dots_at, list_any-alike}
use Rattle.dac_wishes.specs.StoredWishes.{writes_at, writes_of}
use Rattle.dac_wishes.specs.laws.ByKey.{keys_in-rising, none_if_absent, find_kept, keyed_by_key, kept_again, again_kept}
use Rattle.dac_wishes.specs.StartsByKey.{AreStarts, keys_of, starts_by_key}

-- ---- standing wishes

list_any-and : {X : Type 0} (b : Bool) (p : X → Bool) (xs : List X) → list_any (λ x. b && p x) xs ≡ (b && list_any p xs)
list_any-and true p xs = refl
list_any-and false p [] = refl
list_any-and false p (x ∷ xs) = list_any-and false p xs

or_none : (a b : Bool) → b ≡ false → (a || b) ≡ a
or_none true b e = refl
or_none false b e = e

-- whether a write is among those of a key
in_writes_at : (w : Write) (key : Key) (ds : Dots) → list_any (eq_by_cmp write_cmp w) (writes_at key ds) ≡ (same_key w.key key && set.contains ds w.dot)
in_writes_at w key ds =
    list_any-list_map (eq_by_cmp write_cmp w) (write key) (set.items ds)
    ∙ list_any-alike (λ d. eq_by_cmp write_cmp w (write key d)) (λ d. same_key w.key key && same_dot w.dot d) (same_write w key) (set.items ds)
    ∙ list_any-and (same_key w.key key) (same_dot w.dot) (set.items ds)
    ∙ ap (λ b. same_key w.key key && b) (sym (set.contains-items ds w.dot))

-- in a sorted list, a dot at any entry of a key is a dot at the key
at_key : (key : Key) (d : Dot) (m : List (Key × Dots)) → T (is_sorted key_cmp m) → list_any (λ (e : Key × Dots). same_key key e.0 && set.contains e.1 d) m ≡ set.contains (store_at set.empty (find key_cmp key m)) d
at_key key d [] h = sym (set.contains-empty dot_cmp d)
at_key key d (e ∷ m) h = elim (same_key key e.0) as (λ b. same_key key e.0 ≡ b → ((b && set.contains e.1 d) || list_any (λ (f : Key × Dots). same_key key f.0 && set.contains f.1 d) m) ≡ set.contains (store_at set.empty (cond b (Some e.1) (find key_cmp key m))) d) [
  | true ↦ λ t.
      let none : find key_cmp key m ≡ None = ap (λ q. find key_cmp q m) (same_key_is key e.0 t) ∙ find_below keys_total exact_keys e.0 m (first _ _ h) in
      or_none (set.contains e.1 d) _ (at_key key d m (second _ _ h) ∙ ap (λ v. set.contains (store_at set.empty v) d) none ∙ set.contains-empty dot_cmp d)
  | false ↦ λ t. at_key key d m (second _ _ h)
] refl

-- a write stands exactly if its dot is among those at its key
pub contains-writes_of : (m : List (Key × Dots)) → T (is_sorted key_cmp m) → (w : Write) → set.contains (writes_of m) w ≡ set.contains (store_at set.empty (find key_cmp w.key m)) w.dot
unfolding writes_of
contains-writes_of m h w =
    set.contains-from_list writes_total (flat_map (λ (e : Key × Dots). writes_at e.0 e.1) m) w
    ∙ list_any-flat_map (eq_by_cmp write_cmp w) (λ (e : Key × Dots). writes_at e.0 e.1) m
    ∙ list_any-alike (λ (e : Key × Dots). list_any (eq_by_cmp write_cmp w) (writes_at e.0 e.1)) (λ (e : Key × Dots). same_key w.key e.0 && set.contains e.1 w.dot) (λ e. in_writes_at w e.0 e.1) m
    ∙ at_key w.key w.dot m h

-- the dots stored at a key are those that stand there
pub dots_stored : (m : List (Key × Dots)) → T (is_sorted key_cmp m) → (key : Key) → store_at set.empty (find key_cmp key m) ≡ dots_at key (writes_of m)
dots_stored m h key = set.same_set dots_total exact_dots _ _ (λ d. sym (contains-dots_at key (writes_of m) d ∙ contains-writes_of m h (write key d)))

-- ---- to the list by key and back

bare_list : (ds : List Dot) → is_empty_set (set.from_list ds) ≡ is_empty_list ds
bare_list [] = ap (λ n. nat_eq n 0) (set.len-empty dot_cmp)
bare_list (d ∷ ds) = false_from_ne_true _ (λ e.
    let none : set.insert (set.from_list ds) d ≡ set.empty = set.empty_of_len (set.insert (set.from_list ds) d) (eqb-true _ _ e) in
    false≢true (sym (set.contains-empty dot_cmp d) ∙ ap (λ s. set.contains s d) (sym none) ∙ set.contains-insert dots_total (set.from_list ds) d d ∙ or_left _ _ (ap is_eq (tied_itself dots_total d))))

bare_exactly : (writes : Writes) (key : Key) → is_empty_set (dots_at key writes) ≡ not (has_key key_cmp (keys_of writes) key)
unfolding keys_of
bare_exactly writes key =
    bare_list (dots_among key (set.items writes)) ∙ none_if_absent keys_total exact_keys (λ (w : Write). w.key) (λ (w : Write). w.dot) key (set.items writes)

find-starts : (writes : Writes) (key : Key) → find key_cmp key (starts_by_key writes) ≡ unless_empty is_empty_set (dots_at key writes)
unfolding starts_by_key
find-starts writes key = find_kept exact_keys (λ k. dots_at k writes) is_empty_set (keys_of writes) key (bare_exactly writes key)

-- the wishes by key satisfy the stored invariant
pub are_starts : (writes : Writes) → AreStarts (starts_by_key writes)
unfolding starts_by_key keys_of
are_starts writes = keyed_by_key exact_keys (λ k. dots_at k writes) is_empty_set IsAny (λ k. tt) (keys_of writes) (keys_in-rising keys_total exact_keys (λ (w : Write). w.key) (set.items writes)) (bare_exactly writes)

-- a stored list equals its writes by key
pub starts_again : (m : List (Key × Dots)) → AreStarts m → starts_by_key (writes_of m) ≡ m
starts_again m u = same_entries key_cmp keys_total exact_keys _ m (are_starts (writes_of m)).in_order u.in_order (λ q.
    find-starts (writes_of m) q ∙ ap (unless_empty is_empty_set) (sym (dots_stored m u.in_order q)) ∙ kept_again is_empty_set set.empty IsAny (find key_cmp q m) (ap (λ n. nat_eq n 0) (set.len-empty dot_cmp)) (u.stores q))

-- writes equal those of their list by key
pub writes_again : (writes : Writes) → writes_of (starts_by_key writes) ≡ writes
writes_again writes = set.same_set writes_total exact_writes _ writes (λ w.
    contains-writes_of (starts_by_key writes) (are_starts writes).in_order w
    ∙ ap (λ v. set.contains (store_at set.empty v) w.dot) (find-starts writes w.key)
    ∙ ap (λ s. set.contains s w.dot) (again_kept is_empty_set set.empty (dots_at w.key writes) (λ e. set.empty_of_len (dots_at w.key writes) (eqb-true _ _ e)))
    ∙ contains-dots_at w.key writes w.dot)
