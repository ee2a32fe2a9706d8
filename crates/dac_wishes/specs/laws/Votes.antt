-- Laws of the definitions in `Votes`.
use Rattle.std.specs.Prelude.{◌≡◌, true, ◌||◌, Option, None, Some, is_some, refl}
use Rattle.std.proofs.Common.{sym, ap, subst, ◌∙◌, inl, inr}
use Rattle.std.specs.declared.cmp.Ordering.{Ordering}
use Rattle.std.specs.Cmp.{IsTotalOrder}
use Rattle.std.specs.FinSet as set
use Rattle.std.specs.FinMap as map
use Rattle.std.proofs.lemmas.Bool.{false≢true, or_cases}
use Rattle.std.proofs.lemmas.Map.Lookups.{CmpEqualImpliesEq}
use Rattle.dac_origins.specs.declared.dot.Dot.{Dot}
use Rattle.dac_origins.specs.Dots.{Dots, IsSubset, dot_cmp}
use Rattle.dac_origins.specs.laws.Dots.{dots_total}
use Rattle.dac_lattice.specs.declared.flags.Flag.{Flag}
use Rattle.dac_lattice.specs.Chains.{IsAny}
use Rattle.dac_lattice.specs.Flags.{IsFlagBelow}
use Rattle.dac_lattice.specs.laws.Flags.{flag_laws}
use Rattle.dac_lattice.specs.Lattices.{IsLattice, IsOptionOf}
use Rattle.dac_lattice.specs.Entries.{merge_entries}
use Rattle.dac_lattice.specs.laws.Entries.{find_merge}
use Rattle.dac_store.specs.laws.Stores.{subset_left, subset_right, subset_union, subset_empty, same_context}
use Rattle.dac_store.specs.AtDot.{StandsBelow, Under}
use Rattle.dac_store.specs.laws.AtDot.{at_refl, at_trans, at_antisymm, at_comes, at_left, at_right, at_least}
use Rattle.dac_wishes.specs.KeyedWrites.{KeyedWrite, keyed_write_cmp}
use Rattle.dac_wishes.specs.laws.KeyedWrites.{keyed_writes_total, exact_keyed_writes}
use Rattle.dac_wishes.specs.Votes.{AreVotes, AreVotesBelow, VotesValue, join_votes, joined_vote, no_votes}

-- ---- the parts of a join

pub known-join_votes : {K : Type 0} (R : K → K → Ordering) (x y : VotesValue R) → (join_votes R x y).known ≡ set.union x.known y.known
unfolding join_votes
known-join_votes R x y = refl

module _ {K : Type 0} {R : K → K → Ordering} (total : IsTotalOrder R) (exact : CmpEqualImpliesEq R) where
  pub standing-join_votes : (x y : VotesValue R) (w : KeyedWrite K) → map.get (join_votes R x y).standing w ≡ joined_vote R x y w (map.get x.standing w) (map.get y.standing w)
  unfolding join_votes
  standing-join_votes x y w =
      map.get-from_entries (keyed_writes_total total) (merge_entries (keyed_write_cmp R) (joined_vote R x y) (map.entries x.standing) (map.entries y.standing)) w
      ∙ find_merge (keyed_writes_total total) (exact_keyed_writes exact) (joined_vote R x y) (λ _. refl) w (map.entries x.standing) (map.entries y.standing) (map.entries_sorted x.standing) (map.entries_sorted y.standing)
      ∙ sym (λ i. joined_vote R x y w (map.get-entries x.standing w i) (map.get-entries y.standing w i))

  -- two values with equal parts are equal
  pub same_votes : (x y : VotesValue R) → x.known ≡ y.known → ((w : KeyedWrite K) → map.get x.standing w ≡ map.get y.standing w) → x ≡ y
  same_votes x y known h =
      let standing = map.same_map (keyed_writes_total total) (exact_keyed_writes exact) x.standing y.standing h in
      λ i. record { known = known i; standing = standing i }

  -- ---- the laws

  any_in : (v : Option Flag) → IsOptionOf IsAny v
  any_in None = tt
  any_in (Some f) = tt

  under : (v : VotesValue R) → AreVotes R v → (w : KeyedWrite K) → Under IsAny (set.contains v.known w.dot) (map.get v.standing w)
  under v u w = (any_in (map.get v.standing w), u w)

  through : (x y z : VotesValue R) → AreVotesBelow R x y → AreVotesBelow R y z → AreVotesBelow R x z
  through x y z p q = record {
    known = λ d h. q.known d (p.known d h);
    standing = λ w k. at_trans flag_laws (map.get x.standing w) (map.get y.standing w) (map.get z.standing w) (any_in _) (any_in _) (any_in _) (p.standing w k) (q.standing w (p.known w.dot k));
  }

  one_value : (x y : VotesValue R) → AreVotes R x → AreVotes R y → AreVotesBelow R x y → AreVotesBelow R y x → x ≡ y
  one_value x y u v p q =
      let known = same_context x.known y.known p.known q.known in
      same_votes x y known (λ w. at_antisymm flag_laws (set.contains x.known w.dot) (map.get x.standing w) (map.get y.standing w) (under x u w)
      (any_in (map.get y.standing w), λ e. ap (λ (s : Dots). set.contains s w.dot) known ∙ v w e) (p.standing w) (λ k. q.standing w (p.known w.dot k)))

  joined_votes : (x y : VotesValue R) → AreVotes R x → AreVotes R y → AreVotes R (join_votes R x y)
  joined_votes x y u v w h =
      ap (λ (s : Dots). set.contains s w.dot) (known-join_votes R x y)
      ∙ elim (or_cases (is_some (map.get x.standing w)) (is_some (map.get y.standing w)) (at_comes flag_laws (set.contains x.known w.dot) (set.contains y.known w.dot) (map.get x.standing w) (map.get y.standing w) (ap is_some (sym (standing-join_votes x y w)) ∙ h))) [
        | inl a ↦ subset_left x.known y.known w.dot (u w a)
        | inr b ↦ subset_right x.known y.known w.dot (v w b)
      ]

  above_left : (x y : VotesValue R) → AreVotes R x → AreVotes R y → AreVotesBelow R x (join_votes R x y)
  above_left x y u v = record {
    known = subst (IsSubset x.known) (sym (known-join_votes R x y)) (subset_left x.known y.known);
    standing = λ w k. subst (StandsBelow IsFlagBelow (map.get x.standing w)) (sym (standing-join_votes x y w)) (at_left flag_laws (set.contains x.known w.dot) (set.contains y.known w.dot) _ _ (under x u w) (under y v w) k);
  }

  above_right : (x y : VotesValue R) → AreVotes R x → AreVotes R y → AreVotesBelow R y (join_votes R x y)
  above_right x y u v = record {
    known = subst (IsSubset y.known) (sym (known-join_votes R x y)) (subset_right x.known y.known);
    standing = λ w k. subst (StandsBelow IsFlagBelow (map.get y.standing w)) (sym (standing-join_votes x y w)) (at_right flag_laws (set.contains x.known w.dot) (set.contains y.known w.dot) _ _ (under x u w) (under y v w) k);
  }

  below_both : (x y z : VotesValue R) → AreVotes R x → AreVotes R y → AreVotesBelow R x z → AreVotesBelow R y z → AreVotesBelow R (join_votes R x y) z
  below_both x y z u v p q = record {
    known = subst (λ c. IsSubset c z.known) (sym (known-join_votes R x y)) (subset_union x.known y.known z.known p.known q.known);
    standing = λ w k. subst (λ j. StandsBelow IsFlagBelow j (map.get z.standing w)) (sym (standing-join_votes x y w))
        (at_least flag_laws (set.contains x.known w.dot) (set.contains y.known w.dot) _ _ (map.get z.standing w) (under x u w) (under y v w) (any_in _) (p.standing w) (q.standing w) (known_either w.dot k));
  }
    where
      known_either : (d : Dot) → set.contains (join_votes R x y).known d ≡ true → (set.contains x.known d || set.contains y.known d) ≡ true
      known_either d k = sym (ap (λ (s : Dots). set.contains s d) (known-join_votes R x y) ∙ set.contains-union dots_total x.known y.known d) ∙ k

  pub votes_laws : IsLattice (AreVotes R) (AreVotesBelow R) (join_votes R)
  votes_laws = record {
    refl = λ x _. record { known = λ d h. h; standing = λ w k. at_refl flag_laws (map.get x.standing w) (any_in _) };
    trans = λ x y z _ _ _ p q. through x y z p q;
    antisymm = one_value;
    closed = joined_votes;
    left = above_left;
    right = above_right;
    least = λ x y z u v _ p q. below_both x y z u v p q;
  }

pub no_votes_value : {K : Type 0} (R : K → K → Ordering) → AreVotes R (no_votes R)
no_votes_value R w h = absurd (false≢true (ap is_some (sym (map.get-empty (keyed_write_cmp R) w)) ∙ h))

pub no_votes_least : {K : Type 0} (R : K → K → Ordering) (x : VotesValue R) → AreVotesBelow R (no_votes R) x
no_votes_least R x = record {
  known = subset_empty x.known;
  standing = λ w k. absurd (false≢true (sym (set.contains-empty dot_cmp w.dot) ∙ k));
}
