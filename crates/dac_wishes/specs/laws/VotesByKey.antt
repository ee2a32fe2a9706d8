-- Laws of the definitions in `VotesByKey`.
use Rattle.std.specs.Prelude.{◌≡◌, true, false, not, cond, ◌&&◌, T, List, [], ◌∷◌, ◌++◌, Option, None, Some, filter, map as list_map, refl}
use Rattle.std.proofs.Common.{sym, ap, subst, ◌∙◌}
use Rattle.std.specs.declared.cmp.Ordering.{Ordering}
use Rattle.std.specs.declared.cmp.Ordering.TheVariants.{Equal}
use Rattle.std.specs.List.{flat_map}
use Rattle.std.specs.Ordering.{eq_by_cmp, is_lt, ordering_then}
use Rattle.std.specs.Cmp.{IsTotalOrder, tied_itself}
use Rattle.std.specs.FinMap as map
use Rattle.std.specs.FinMap.{find, is_sorted}
use Rattle.std.specs.FinMap.Entries.{below_all, same_entries}
use Rattle.std.proofs.lemmas.Map.Lookups.{CmpEqualImpliesEq}
use Rattle.std.proofs.Math.Facts.{yes_and}
use Rattle.dac_origins.specs.declared.dot.Dot.{Dot}
use Rattle.dac_origins.specs.Dots.{dot_cmp}
use Rattle.dac_origins.specs.laws.Dots.{dots_total, exact_dots}
use Rattle.dac_origins.specs.Keys.{has_key}
use Rattle.dac_lattice.specs.declared.flags.Flag.{Flag}
use Rattle.dac_lattice.specs.Chains.{IsAny}
use Rattle.dac_lattice.specs.Lattices.{IsOptionOf}
use Rattle.dac_lattice.specs.Maps.{IsMap}
use Rattle.dac_lattice.specs.laws.Flags.{flag_laws}
use Rattle.dac_lattice.specs.laws.Entries.{find_below}
use Rattle.dac_lattice.specs.laws.EntryLaws.{first, second}
use Rattle.dac_store.specs.DotFuns.{is_empty_list}
use Rattle.dac_store.specs.laws.DotFuns.{when_empty, fun_laws}
use Rattle.dac_store.specs.DotMaps.{store_at, unless_empty}
use Rattle.dac_store.specs.laws.DotMaps.{at_store}
use Rattle.dac_wishes.specs.KeyedWrites.{KeyedWrite, keyed_write, keyed_write_cmp, same_dot}
use Rattle.dac_wishes.specs.laws.KeyedWrites.{keyed_writes_total, exact_keyed_writes, tied_is, same_keyed_write, at_keyed_write}
use Rattle.dac_wishes.specs.Votes.{Votes, votes_among, votes_at}
use Rattle.dac_wishes.specs.VoteMeaning.{or_else}
use Rattle.dac_wishes.specs.laws.VoteMeaning.{else_none}
use Rattle.dac_wishes.specs.StoredVotes.{DotFlags, AreKeyedVotes, keyed_votes, votes_of}
use Rattle.dac_wishes.specs.laws.ByKey.{keys_in-rising, none_if_absent, find_kept, keyed_by_key, kept_again, again_kept}
use Rattle.dac_wishes.specs.VotesByKey.{voted_keys, votes_by_key}

find-append : {K X : Type 0} (R : K → K → Ordering) (q : K) (es fs : List (K × X)) → find R q (es ++ fs) ≡ or_else (find R q es) (find R q fs)
find-append R q [] fs = refl
find-append R q (e ∷ es) fs = elim (eq_by_cmp R q e.0) as (λ t. cond t (Some e.1) (find R q (es ++ fs)) ≡ or_else (cond t (Some e.1) (find R q es)) (find R q fs)) [
  | true ↦ refl
  | false ↦ find-append R q es fs
]

any_flag : (v : Option Flag) → IsOptionOf {T = Flag} IsAny v
any_flag None = tt
any_flag (Some f) = tt

module _ {K : Type 0} {R : K → K → Ordering} (keys_total : IsTotalOrder R) (exact_keys : CmpEqualImpliesEq R) where
  -- ---- standing votes

  -- a search among the votes of a key
  find-keyed : (w : KeyedWrite K) (key : K) (ps : DotFlags) → find (keyed_write_cmp R) w (keyed_votes key ps) ≡ cond (eq_by_cmp R w.key key) (find dot_cmp w.dot ps) None
  find-keyed w key [] = elim (eq_by_cmp R w.key key) as (λ b. ◌≡◌ {A = Option Flag} None (cond b None None)) [ true ↦ refl | false ↦ refl ]
  find-keyed w key (p ∷ ps) =
      ap (λ t. cond t (Some p.1) (find (keyed_write_cmp R) w (keyed_votes key ps))) (same_keyed_write R w key p.0)
      ∙ ap (λ r. cond (eq_by_cmp R w.key key && same_dot w.dot p.0) (Some p.1) r) (find-keyed w key ps)
      ∙ elim (eq_by_cmp R w.key key) as (λ b. cond (b && same_dot w.dot p.0) (Some p.1) (cond b (find dot_cmp w.dot ps) None) ≡ cond b (cond (same_dot w.dot p.0) (Some p.1) (find dot_cmp w.dot ps)) None) [ true ↦ refl | false ↦ refl ]

  find-flat : (w : KeyedWrite K) (m : List (K × DotFlags)) → T (is_sorted R m) → find (keyed_write_cmp R) w (flat_map (λ (e : K × DotFlags). keyed_votes e.0 e.1) m) ≡ find dot_cmp w.dot (store_at [] (find R w.key m))
  find-flat w [] h = refl
  find-flat w (e ∷ m) h =
      find-append (keyed_write_cmp R) w (keyed_votes e.0 e.1) (flat_map (λ (e : K × DotFlags). keyed_votes e.0 e.1) m)
      ∙ (λ i. or_else (find-keyed w e.0 e.1 i) (find-flat w m (second _ _ h) i))
      ∙ elim (eq_by_cmp R w.key e.0) as (λ b. eq_by_cmp R w.key e.0 ≡ b → or_else (cond b (find dot_cmp w.dot e.1) None) (find dot_cmp w.dot (store_at [] (find R w.key m))) ≡ find dot_cmp w.dot (store_at [] (cond b (Some e.1) (find R w.key m)))) [
        | true ↦ λ t.
            let none : find R w.key m ≡ None = ap (λ q. find R q m) (tied_is exact_keys w.key e.0 t) ∙ find_below keys_total exact_keys e.0 m (first _ _ h) in
            ap (λ o. or_else (find dot_cmp w.dot e.1) (find dot_cmp w.dot (store_at [] o))) none ∙ else_none (find dot_cmp w.dot e.1)
        | false ↦ λ t. refl
      ] refl

  -- the standing vote of a write is the flag at its dot at its key
  pub get-votes_of : (m : List (K × DotFlags)) → T (is_sorted R m) → (w : KeyedWrite K) → map.get (votes_of R m) w ≡ find dot_cmp w.dot (store_at [] (find R w.key m))
  unfolding votes_of
  get-votes_of m h w = map.get-from_entries (keyed_writes_total keys_total) (flat_map (λ (e : K × DotFlags). keyed_votes e.0 e.1) m) w ∙ find-flat w m h

  -- ---- the votes at a key

  -- a search among the votes at a key, by dot
  find-among : (key : K) (d : Dot) (es : List (KeyedWrite K × Flag)) → find dot_cmp d (votes_among R key es) ≡ find (keyed_write_cmp R) (keyed_write key d) es
  find-among key d [] = refl
  find-among key d (e ∷ es) =
      elim (eq_by_cmp R e.0.key key) as (λ b. find dot_cmp d (list_map (λ (e : KeyedWrite K × Flag). (e.0.dot, e.1)) (cond b (e ∷ filter (λ (e : KeyedWrite K × Flag). eq_by_cmp R e.0.key key) es) (filter (λ (e : KeyedWrite K × Flag). eq_by_cmp R e.0.key key) es))) ≡ cond (b && same_dot d e.0.dot) (Some e.1) (find (keyed_write_cmp R) (keyed_write key d) es)) [
        | true ↦ ap (cond (same_dot d e.0.dot) (Some e.1)) (find-among key d es)
        | false ↦ find-among key d es
      ]
      ∙ ap (λ t. cond t (Some e.1) (find (keyed_write_cmp R) (keyed_write key d) es)) (sym (at_keyed_write keys_total key d e.0))

  -- writes at one key are ordered by dot
  one_key : (key : K) (w x : KeyedWrite K) → eq_by_cmp R w.key key ≡ true → eq_by_cmp R x.key key ≡ true → (keyed_write_cmp R) w x ≡ dot_cmp w.dot x.dot
  one_key key w x s t =
      let tie : R w.key x.key ≡ Equal = ap (λ k. R w.key k) (tied_is exact_keys x.key key t ∙ sym (tied_is exact_keys w.key key s)) ∙ tied_itself keys_total w.key in
      ap (λ r. ordering_then r (dot_cmp w.dot x.dot)) tie

  below_among : (key : K) (w : KeyedWrite K) (es : List (KeyedWrite K × Flag)) → eq_by_cmp R w.key key ≡ true → T (below_all (keyed_write_cmp R) w es) → T (below_all dot_cmp w.dot (votes_among R key es))
  below_among key w [] s h = tt
  below_among key w (e ∷ es) s h = elim (eq_by_cmp R e.0.key key) as (λ b. eq_by_cmp R e.0.key key ≡ b → T (below_all dot_cmp w.dot (list_map (λ (e : KeyedWrite K × Flag). (e.0.dot, e.1)) (cond b (e ∷ filter (λ (e : KeyedWrite K × Flag). eq_by_cmp R e.0.key key) es) (filter (λ (e : KeyedWrite K × Flag). eq_by_cmp R e.0.key key) es))))) [
    | true ↦ λ t. yes_and _ _ (subst (λ r. T (is_lt r)) (one_key key w e.0 s t) (first _ _ h)) (below_among key w es s (second _ _ h))
    | false ↦ λ t. below_among key w es s (second _ _ h)
  ] refl

  sorted_among : (key : K) (es : List (KeyedWrite K × Flag)) → T (is_sorted (keyed_write_cmp R) es) → T (is_sorted dot_cmp (votes_among R key es))
  sorted_among key [] h = tt
  sorted_among key (e ∷ es) h = elim (eq_by_cmp R e.0.key key) as (λ b. eq_by_cmp R e.0.key key ≡ b → T (is_sorted dot_cmp (list_map (λ (e : KeyedWrite K × Flag). (e.0.dot, e.1)) (cond b (e ∷ filter (λ (e : KeyedWrite K × Flag). eq_by_cmp R e.0.key key) es) (filter (λ (e : KeyedWrite K × Flag). eq_by_cmp R e.0.key key) es))))) [
    | true ↦ λ t. yes_and _ _ (below_among key e.0 es t (first _ _ h)) (sorted_among key es (second _ _ h))
    | false ↦ λ t. sorted_among key es (second _ _ h)
  ] refl

  -- the vote at a dot of a key is the standing one
  pub find-votes_at : (key : K) (votes : Votes R) (d : Dot) → find dot_cmp d (votes_at R key votes) ≡ map.get votes (keyed_write key d)
  find-votes_at key votes d = find-among key d (map.entries votes) ∙ sym (map.get-entries votes (keyed_write key d))

  pub votes_at-sorted : (key : K) (votes : Votes R) → T (is_sorted dot_cmp (votes_at R key votes))
  votes_at-sorted key votes = sorted_among key (map.entries votes) (map.entries_sorted votes)

  -- the votes stored at a key are those that stand there
  pub votes_stored : (m : List (K × DotFlags)) → AreKeyedVotes R m → (key : K) → store_at [] (find R key m) ≡ votes_at R key (votes_of R m)
  votes_stored m u key =
      let at = at_store keys_total exact_keys (fun_laws flag_laws) _ (u.stores key) in
      same_entries dot_cmp dots_total exact_dots _ _ at.in_order (votes_at-sorted key (votes_of R m))
      (λ d. sym (find-votes_at key (votes_of R m) d ∙ get-votes_of m u.in_order (keyed_write key d)))

  -- ---- to the list by key and back

  bare_exactly : (votes : Votes R) (key : K) → is_empty_list (votes_at R key votes) ≡ not (has_key R (voted_keys R votes) key)
  unfolding voted_keys
  bare_exactly votes key = none_if_absent keys_total exact_keys (λ (e : KeyedWrite K × Flag). e.0.key) (λ (e : KeyedWrite K × Flag). (e.0.dot, e.1)) key (map.entries votes)

  find-votes : (votes : Votes R) (key : K) → find R key (votes_by_key R votes) ≡ unless_empty is_empty_list (votes_at R key votes)
  unfolding votes_by_key
  find-votes votes key = find_kept exact_keys (λ k. votes_at R k votes) is_empty_list (voted_keys R votes) key (bare_exactly votes key)

  -- the votes by key satisfy the stored invariant
  pub are_votes : (votes : Votes R) → AreKeyedVotes R (votes_by_key R votes)
  unfolding votes_by_key voted_keys
  are_votes votes = keyed_by_key exact_keys (λ k. votes_at R k votes) is_empty_list (IsMap dot_cmp IsAny)
      (λ k. record { in_order = votes_at-sorted k votes; values = λ d. any_flag _ })
      (voted_keys R votes) (keys_in-rising keys_total exact_keys (λ (e : KeyedWrite K × Flag). e.0.key) (map.entries votes)) (bare_exactly votes)

  -- a stored list equals its votes by key
  pub votes_again : (m : List (K × DotFlags)) → AreKeyedVotes R m → votes_by_key R (votes_of R m) ≡ m
  votes_again m u = same_entries R keys_total exact_keys _ m (are_votes (votes_of R m)).in_order u.in_order (λ q.
      find-votes (votes_of R m) q ∙ ap (unless_empty is_empty_list) (sym (votes_stored m u q)) ∙ kept_again is_empty_list [] (IsMap dot_cmp IsAny) (find R q m) refl (u.stores q))

  -- votes equal those of their list by key
  pub votes_by_key_again : (votes : Votes R) → votes_of R (votes_by_key R votes) ≡ votes
  votes_by_key_again votes = map.same_map (keyed_writes_total keys_total) (exact_keyed_writes exact_keys) _ votes (λ w.
      get-votes_of (votes_by_key R votes) (are_votes votes).in_order w
      ∙ ap (λ v. find dot_cmp w.dot (store_at [] v)) (find-votes votes w.key)
      ∙ ap (λ s. find dot_cmp w.dot s) (again_kept is_empty_list [] (votes_at R w.key votes) (when_empty (votes_at R w.key votes)))
      ∙ find-votes_at w.key votes w.dot)
