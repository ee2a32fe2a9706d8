-- Votes and the deltas of operations, in their stored form.
use Rattle.std.specs.Prelude.{◌≡◌, Bool, true, false, cond, ◌||◌, List, [], ◌∷◌, Option, None, Some, is_some, refl}
use Rattle.std.proofs.Common.{sym, ap, subst, ◌∙◌}
use Rattle.std.specs.declared.cmp.Ordering.{Ordering}
use Rattle.std.specs.Ordering.{eq_by_cmp}
use Rattle.std.specs.Cmp.{IsTotalOrder}
use Rattle.std.specs.FinSet as set
use Rattle.std.specs.FinMap as map
use Rattle.std.specs.FinMap.{find}
use Rattle.std.proofs.lemmas.Bool.{false≢true, or_left, or_right}
use Rattle.std.proofs.lemmas.Map.Lookups.{CmpEqualImpliesEq}
use Rattle.dac_origins.specs.declared.dot.Dot.{Dot}
use Rattle.dac_origins.specs.Dots.{Dots, dot_cmp}
use Rattle.dac_origins.specs.laws.Dots.{dots_total}
use Rattle.dac_origins.specs.Keys.{has_key}
use Rattle.dac_lattice.specs.declared.flags.Flag.{Flag}
use Rattle.dac_lattice.specs.Chains.{IsAny}
use Rattle.dac_lattice.specs.Flags.{IsFlagBelow, join_flags}
use Rattle.dac_lattice.specs.laws.Flags.{flag_laws}
use Rattle.dac_lattice.specs.Lattices.{IsOptionOf}
use Rattle.dac_lattice.specs.Maps.{IsMap}
use Rattle.dac_store.specs.Stores.{IsHeld, IsStoredBelow, join_stored}
use Rattle.dac_store.specs.laws.Stores.{causal_laws}
use Rattle.dac_store.specs.AtDot.{StandsBelow}
use Rattle.dac_store.specs.DotFuns.{has_dot, IsFunBelow, join_funs, is_empty_list}
use Rattle.dac_store.specs.laws.DotFuns.{fun_laws, find_join}
use Rattle.dac_store.specs.DotMaps.{has_in, store_at, IsKept, IsKeyedBelow, join_keyed}
use Rattle.dac_store.specs.laws.DotMaps.{keyed_laws, at_join, at_store}
use Rattle.dac_wishes.specs.KeyedWrites.{KeyedWrite, keyed_write, same_dot}
use Rattle.dac_wishes.specs.Votes.{AreVotes, AreVotesBelow, VotesValue, join_votes, joined_vote}
use Rattle.dac_wishes.specs.laws.Votes.{known-join_votes, standing-join_votes, same_votes}
use Rattle.dac_wishes.specs.StoredVotes.{DotFlags, StoredVotes, AreKeyedVotes, AreStoredVotes, votes_of, votes_value_of, stored_vote}
use Rattle.dac_wishes.specs.VotesByKey.{votes_by_key}
use Rattle.dac_wishes.specs.laws.VotesByKey.{get-votes_of, votes_again}
use Rattle.dac_wishes.specs.Replacing.{named_by}
use Rattle.dac_wishes.specs.VoteMeaning.{vote_delta, says_of}
use Rattle.dac_wishes.specs.laws.VoteMeaning.{get-vote_delta}

-- ---- stored dots are known

held_at : {K : Type 0} (R : K → K → Ordering) (m : List (K × DotFlags)) (key : K) (d : Dot) → has_dot (store_at [] (find R key m)) d ≡ true → has_in has_dot m d ≡ true
held_at R [] key d h = absurd (false≢true h)
held_at R (e ∷ m) key d h = elim (eq_by_cmp R key e.0) as (λ b. has_dot (store_at [] (cond b (Some e.1) (find R key m))) d ≡ true → (has_dot e.1 d || has_in has_dot m d) ≡ true) [
  | true ↦ λ h. or_left (has_dot e.1 d) (has_in has_dot m d) h
  | false ↦ λ h. or_right (has_dot e.1 d) (has_in has_dot m d) (held_at R m key d h)
] h

-- stored votes, paired with an equal context
pub votes_with : {K : Type 0} (R : K → K → Ordering) (v : StoredVotes K) (known : Dots) → AreStoredVotes R v → v.context ≡ known → AreStoredVotes R (record { store = v.store; context = known })
votes_with R v known stored same = subst (λ c. AreStoredVotes R (record { store = v.store; context = c })) same stored

-- ---- order and join

-- the order and the join of stored forms
abbrev pub AreStoredVotesBelow : {K : Type 0} (R : K → K → Ordering) → StoredVotes K → StoredVotes K → Type 0
AreStoredVotesBelow R = IsStoredBelow (IsKeyedBelow R [] (IsFunBelow IsFlagBelow))

abbrev pub join_stored_votes : {K : Type 0} (R : K → K → Ordering) → StoredVotes K → StoredVotes K → StoredVotes K
join_stored_votes R = join_stored (join_keyed R [] is_empty_list (join_funs join_flags))

pub votes_of-none : {K : Type 0} (R : K → K → Ordering) → votes_of R [] ≡ map.empty
unfolding votes_of
votes_of-none R = refl

-- the stored form of no votes
pub votes_value_of-none : {K : Type 0} (R : K → K → Ordering) → votes_value_of R (record { store = []; context = set.empty }) ≡ record { known = set.empty; standing = map.empty }
unfolding votes_of
votes_value_of-none R = refl

module _ {K : Type 0} {R : K → K → Ordering} (keys_total : IsTotalOrder R) (exact_keys : CmpEqualImpliesEq R) where
  pub stored_votes : (v : StoredVotes K) → AreStoredVotes R v → AreVotes R (votes_value_of R v)
  stored_votes v u w h = u.held w.dot (held_at R v.store w.key w.dot (ap is_some (sym (get-votes_of keys_total exact_keys v.store u.store.in_order w)) ∙ h))

  module _ (v w : StoredVotes K) (a : AreStoredVotes R v) (b : AreStoredVotes R w) where
    -- stored forms of the same votes are equal
    pub same_stored : votes_value_of R v ≡ votes_value_of R w → v ≡ w
    same_stored e =
        let stores = sym (votes_again keys_total exact_keys v.store a.store) ∙ ap (λ (x : VotesValue R). votes_by_key R x.standing) e ∙ votes_again keys_total exact_keys w.store b.store in
        λ i. record { store = stores i; context = (e i).known }

    here : (q : KeyedWrite K) → map.get (votes_of R v.store) q ≡ find dot_cmp q.dot (store_at [] (find R q.key v.store))
    here q = get-votes_of keys_total exact_keys v.store a.store.in_order q

    there : (q : KeyedWrite K) → map.get (votes_of R w.store) q ≡ find dot_cmp q.dot (store_at [] (find R q.key w.store))
    there q = get-votes_of keys_total exact_keys w.store b.store.in_order q

    pub below_if_stored : AreStoredVotesBelow R v w → AreVotesBelow R (votes_value_of R v) (votes_value_of R w)
    below_if_stored p = record {
      known = p.0;
      standing = λ q k. subst (λ x. StandsBelow IsFlagBelow x (map.get (votes_of R w.store) q)) (sym (here q)) (subst (StandsBelow IsFlagBelow _) (sym (there q)) (p.1 q.key q.dot k));
    }

    pub stored_if_below : AreVotesBelow R (votes_value_of R v) (votes_value_of R w) → AreStoredVotesBelow R v w
    stored_if_below p = (
      p.known,
      λ key d k.
          let q = keyed_write key d in
          subst (λ x. StandsBelow IsFlagBelow x (find dot_cmp d (store_at [] (find R key w.store)))) (here q) (subst (StandsBelow IsFlagBelow _) (there q) (p.standing q k)),
    )

    pub joined_stored : AreStoredVotes R (join_stored_votes R v w)
    joined_stored = (causal_laws (keyed_laws keys_total exact_keys (fun_laws flag_laws))).closed v w a b

    -- the join of stored forms represents the join
    pub votes_value_of-join : votes_value_of R (join_stored_votes R v w) ≡ join_votes R (votes_value_of R v) (votes_value_of R w)
    votes_value_of-join = same_votes keys_total exact_keys (votes_value_of R (join_stored_votes R v w)) (join_votes R (votes_value_of R v) (votes_value_of R w)) (sym (known-join_votes R (votes_value_of R v) (votes_value_of R w))) (λ q.
        get-votes_of keys_total exact_keys (join_stored_votes R v w).store joined_stored.store.in_order q
        ∙ ap (find dot_cmp q.dot) (at_join keys_total exact_keys (fun_laws flag_laws) v.store v.context w.store w.context a.store b.store q.key)
        ∙ find_join flag_laws (store_at [] (find R q.key v.store)) v.context (store_at [] (find R q.key w.store)) w.context
        (at_store keys_total exact_keys (fun_laws flag_laws) _ (a.store.stores q.key)) (at_store keys_total exact_keys (fun_laws flag_laws) _ (b.store.stores q.key)) q.dot
        ∙ sym (λ i. joined_vote R (votes_value_of R v) (votes_value_of R w) q (here q i) (there q i))
        ∙ sym (standing-join_votes keys_total exact_keys (votes_value_of R v) (votes_value_of R w) q))

-- ---- deltas

one_in : (b : Bool) (f : Flag) → IsOptionOf IsAny (cond b (Some f) None)
one_in true f = tt
one_in false f = tt

vote_kept : (d : Dot) (f : Flag) (b : Bool) → IsKept (IsMap dot_cmp IsAny) is_empty_list (cond b (Some ((d, f) ∷ [])) None)
vote_kept d f true = (record { in_order = tt; values = λ x. one_in (same_dot x d) f }, refl)
vote_kept d f false = tt

some_test : (b : Bool) (f : Flag) → (is_some (cond b (Some f) None) || false) ≡ true → b ≡ true
some_test true f e = refl
some_test false f e = e

vote_keyed : {K : Type 0} (R : K → K → Ordering) (d : Dot) (u : Option (K × Flag)) → AreKeyedVotes R (stored_vote d u)
vote_keyed R d None = record { in_order = tt; stores = λ k. tt }
vote_keyed R d (Some v) = record { in_order = tt; stores = λ k. vote_kept d v.1 (eq_by_cmp R k v.0) }

vote_held : {K : Type 0} (d : Dot) (u : Option (K × Flag)) (x : Dot) → has_in has_dot (stored_vote d u) x ≡ true → same_dot x d ≡ true
vote_held d None x e = absurd (false≢true e)
vote_held d (Some v) x e = some_test (same_dot x d) v.1 e

none_at : (b : Bool) → ◌≡◌ {A = Option Flag} None (cond b None None)
none_at true = refl
none_at false = refl

vote_at : (d : Dot) (f : Flag) (k : Bool) (x : Dot) → find dot_cmp x (store_at [] (cond k (Some ((d, f) ∷ [])) None)) ≡ cond (same_dot x d) (cond k (Some f) None) None
vote_at d f true x = refl
vote_at d f false x = none_at (same_dot x d)

vote_there : {K : Type 0} (R : K → K → Ordering) (d : Dot) (u : Option (K × Flag)) (w : KeyedWrite K) → find dot_cmp w.dot (store_at [] (find R w.key (stored_vote d u))) ≡ cond (same_dot w.dot d) (says_of R w.key u) None
vote_there R d None w = none_at (same_dot w.dot d)
vote_there R d (Some v) w = vote_at d v.1 (eq_by_cmp R w.key v.0) w.dot

-- a delta's dot is known
pub vote_held_by : {K : Type 0} (d : Dot) (u : Option (K × Flag)) (over : List Dot) → IsHeld (has_in has_dot (stored_vote d u)) (set.from_list (d ∷ over))
vote_held_by d u over x e = set.contains-from_list dots_total (d ∷ over) x ∙ or_left (same_dot x d) (has_key dot_cmp over x) (vote_held d u x e)

-- the stored form of a vote, paired with the dots that the operation names
pub vote_beside : {K : Type 0} (R : K → K → Ordering) (d : Dot) (u : Option (K × Flag)) (over : List Dot) → AreStoredVotes R (record { store = stored_vote d u; context = set.from_list (d ∷ over) })
vote_beside R d u over = record { store = vote_keyed R d u; held = vote_held_by d u over }

module _ {K : Type 0} {R : K → K → Ordering} (keys_total : IsTotalOrder R) (exact_keys : CmpEqualImpliesEq R) {A : Type 0} (over : A → List Dot) (vote : A → Option (K × Flag)) where
  -- the stored form of a delta represents the delta
  pub votes_value_of-delta : (d : Dot) (a : A) → votes_value_of R (record { store = stored_vote d (vote a); context = named_by over d a }) ≡ vote_delta R over vote d a
  votes_value_of-delta d a = same_votes keys_total exact_keys (votes_value_of R (record { store = stored_vote d (vote a); context = named_by over d a })) (vote_delta R over vote d a) refl (λ w.
      get-votes_of keys_total exact_keys (stored_vote d (vote a)) (vote_keyed R d (vote a)).in_order w ∙ vote_there R d (vote a) w ∙ sym (get-vote_delta keys_total exact_keys over vote d a w))
