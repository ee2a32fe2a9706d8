-- Votes are well-formed exactly if their lists by key are.
use Rattle.std.specs.Prelude.{◌≡◌, ◌^◌, ◌<◌, ◌≤◌, true, false, cond, List, [], ◌∷◌, length, Option, None, Some, is_some, refl}
use Rattle.std.proofs.Common.{sym, ap, subst, ◌∙◌, arith}
use Rattle.dac_part_bytes.proofs.Common.{Ordering, is_eq, IsTotalOrder, tied_itself, find, false≢true, CmpEqualImpliesEq, Dot, Dots, dot_cmp, dots_total, exact_dots, Flag, is_empty_list, DotFlags, Table, Version, IsKnownDot}
use Rattle.std.proofs.lemmas.Bool.{true≢false}
use Rattle.dac_lattice.specs.Chains.{IsAny}
use Rattle.dac_lattice.specs.Lattices.{IsOptionOf}
use Rattle.dac_lattice.specs.Maps.{IsMap}
use Rattle.dac_store.specs.DotMaps.{store_at, IsKept}
use Rattle.dac_wishes.specs.KeyedWrites.{KeyedWrite, keyed_write}
use Rattle.dac_wishes.specs.StoredVotes.{AreKeyedVotes, votes_of}
use Rattle.dac_wishes.specs.Votes.{Votes, votes_at}
use Rattle.dac_wishes.specs.VotesByKey.{votes_by_key}
use Rattle.dac_wishes.specs.laws.VotesByKey.{get-votes_of, find-votes_at, votes_stored, are_votes, votes_again, votes_by_key_again}
use Rattle.dac_part_bytes.specs.KeyedForm.{IsKnownWrite, AreVotesInForm}
use Rattle.dac_part_bytes.proofs.Entries.{sorted_of, rising_keys, found, found_key, all_found}
use Rattle.dac_part_bytes.proofs.InOrder.{not_empty}
use Rattle.dac_part_bytes.proofs.VoteLists.{IsKeyedVotes, AreVotesByKey}

not_none : {X : Type 0} (xs : List X) → is_empty_list xs ≡ false → 1 ≤ length xs
not_none [] e = absurd (true≢false e)
not_none (x ∷ xs) e = omega arith

any_flag : (v : Option Flag) → IsOptionOf {T = Flag} IsAny v
any_flag None = tt
any_flag (Some f) = tt

-- a nonempty list of votes contains one
some_vote : (ps : DotFlags) → is_empty_list ps ≡ false → (d : Dot) × (is_some (find dot_cmp d ps) ≡ true)
some_vote [] e = absurd (true≢false e)
some_vote (p ∷ ps) e = (p.0, ap (λ r. is_some (cond (is_eq r) (Some p.1) (find dot_cmp p.0 ps))) (tied_itself dots_total p.0))

module _ {K : Type 0} {R : K → K → Ordering} (total : IsTotalOrder R) (exact : CmpEqualImpliesEq R) (IsKeyOf : K → Type 0) (version : Version) (t : Table) (known : Dots) where
  abbrev IsKeyed : K × DotFlags → Type 0
  IsKeyed = IsKeyedVotes IsKeyOf version t known

  abbrev AreByKey : List (K × DotFlags) → Type 0
  AreByKey = AreVotesByKey R IsKeyOf version t known

  abbrev InForm : Votes R → Type 0
  InForm = AreVotesInForm R IsKeyOf version t known

  abbrev IsKnown : KeyedWrite K → Type 0
  IsKnown = IsKnownWrite IsKeyOf version t known

  -- ---- from the list by key

  module _ (m : List (K × DotFlags)) (is : AreByKey m) where
    -- the entry of a key is well-formed
    at_key : (key : K) (ps : DotFlags) → find R key m ≡ Some ps → IsKeyed (key, ps)
    at_key key ps e = found total exact IsKeyed m is.1 key ps e

    kept_at : (key : K) (v : Option DotFlags) → find R key m ≡ v → IsKept (IsMap dot_cmp IsAny) is_empty_list v
    kept_at key None e = tt
    kept_at key (Some ps) e =
        let at = at_key key ps e in
        (record { in_order = sorted_of dot_cmp ps at.1.2; values = λ d. any_flag (find dot_cmp d ps) }, not_empty ps at.1.0.0)

    -- the list satisfies the invariant of votes
    are_kept : AreKeyedVotes R m
    are_kept = record { in_order = sorted_of R m is.2; stores = λ key. kept_at key (find R key m) refl }

    -- the list is the one of its own votes
    pub list_again : votes_by_key R (votes_of R m) ≡ m
    list_again = votes_again total exact m are_kept

    known_at : (w : KeyedWrite K) (v : Option DotFlags) → find R w.key m ≡ v → is_some (find dot_cmp w.dot (store_at [] v)) ≡ true → IsKnown w
    known_at w None e h = absurd (false≢true h)
    known_at w (Some ps) e h =
        let at = at_key w.key ps e in
        record { key = at.0; dot = found_key dots_total exact_dots (IsKnownDot version t known) ps at.1.1 w.dot h }

    few_at : (key : K) (v : Option DotFlags) → find R key m ≡ v → length (store_at [] v) < 2 ^ 32
    few_at key None e = omega arith
    few_at key (Some ps) e = omega (arith, (at_key key ps e).1.0.1)

    pub votes_in_form : InForm (votes_of R m)
    votes_in_form = record {
      each = λ w h. known_at w (find R w.key m) refl (ap (λ (v : Option Flag). is_some v) (sym (get-votes_of total exact m are_kept.in_order w)) ∙ h);
      keys = subst (λ (l : List (K × DotFlags)). length l < 2 ^ 32) (sym list_again) is.0;
      dots = λ key. subst (λ (ps : DotFlags). length ps < 2 ^ 32) (votes_stored total exact m are_kept key) (few_at key (find R key m) refl);
    }

  -- ---- from the votes

  module _ (votes : Votes R) (is : InForm votes) where
    -- the entry of a key in the list contains its votes
    stored_at : (key : K) (ps : DotFlags) → find R key (votes_by_key R votes) ≡ Some ps → ps ≡ votes_at R key votes
    stored_at key ps e =
        ap (store_at []) (sym e) ∙ votes_stored total exact (votes_by_key R votes) (are_votes total exact votes) key ∙ ap (votes_at R key) (votes_by_key_again total exact votes)

    stands : (key : K) (ps : DotFlags) → ps ≡ votes_at R key votes → (d : Dot) → is_some (find dot_cmp d ps) ≡ true → IsKnown (keyed_write key d)
    stands key ps same d h = is.each (keyed_write key d) (ap (λ (v : Option Flag). is_some v) (sym (ap (find dot_cmp d) same ∙ find-votes_at total exact key votes d)) ∙ h)

    keyed : (key : K) (ps : DotFlags) → find R key (votes_by_key R votes) ≡ Some ps → IsKeyed (key, ps)
    keyed key ps e =
        let same = stored_at key ps e in
        let kept : IsKept (IsMap dot_cmp IsAny) is_empty_list (Some ps) = subst (IsKept (IsMap dot_cmp IsAny) is_empty_list) e ((are_votes total exact votes).stores key) in
        let one = some_vote ps kept.1 in
        let few : length ps < 2 ^ 32 = subst (λ (ps : DotFlags). length ps < 2 ^ 32) (sym same) (is.dots key) in
        let each = all_found dots_total exact_dots (λ (p : Dot × Flag). IsKnownDot version t known p.0) ps kept.0.in_order
        (λ d f h. (stands key ps same d (ap (λ (v : Option Flag). is_some v) h)).dot) in
        ((stands key ps same one.0 one.1).key, ((not_none ps kept.1, omega (arith, few)), each, rising_keys dot_cmp ps kept.0.in_order))

    -- their list by key is well-formed
    pub list_in_form : AreByKey (votes_by_key R votes)
    list_in_form =
        let sorted = (are_votes total exact votes).in_order in
        (is.keys, all_found total exact IsKeyed (votes_by_key R votes) sorted keyed, rising_keys R (votes_by_key R votes) sorted)
