-- Two lists of entries that are walked through together: the invariant compares their rests.
use Rattle.std.proofs.Common.{◌≡◌, ℕ, ◌<◌, true, false, cond, List, [], ◌∷◌, length, drop, Option, None, Some, MatchOption, refl, sym, ap, ◌∙◌, arith, add-one, true≢false}
use Rattle.std.specs.Prelude.{is_some}
use Rattle.std.specs.Borrow.{Bor}
use Rattle.std.specs.Ordering.{eq_by_cmp}
use Rattle.std.specs.FinMap.{find}
use Rattle.std.specs.Cmp.{Equal-is}
use Rattle.std.proofs.lemmas.Bool.{false_from_ne_true}
use Rattle.dac_wishes.specs.declared.key.Key.{Key}
use Rattle.dac_wishes.specs.Keys.{key_cmp}
use Rattle.dac_wishes.specs.laws.Keys.{exact_keys}
use Rattle.std.specs.declared.cmp.Ordering.{Ordering}
use Rattle.std.specs.Cmp.{IsTotalOrder}
use Rattle.std.specs.FinSet as set
use Rattle.std.proofs.lemmas.Map.Lookups.{CmpEqualImpliesEq}
use Rattle.dac_store.specs.DotMaps.{store_at}
use Rattle.dac_wishes.specs.Votes.{Votes, votes_at}
use Rattle.dac_wishes.specs.StoredVotes.{votes_of}
use Rattle.dac_wishes.specs.VotesByKey.{votes_by_key}
use Rattle.dac_wishes.specs.laws.VotesByKey.{are_votes, votes_stored, votes_by_key_again}
use Rattle.dac_wishes.specs.Writes.{Writes, dots_at}
use Rattle.dac_wishes.specs.StartsByKey.{starts_by_key}
use Rattle.dac_wishes.specs.laws.StartsByKey.{are_starts, dots_stored, writes_again}
use Rattle.dac_lattice.specs.Search.{AtEachKey}
use Rattle.dac_board.specs.Alike.{IsAbsent, IsSameOf}
use Rattle.dac_board.specs.Marks.{place_of}

same_key_is : (a b : Key) → eq_by_cmp key_cmp a b ≡ true → a ≡ b
same_key_is a b e = exact_keys a b ((Equal-is (key_cmp a b)).0 e)

module _ {X : Type 0} (k : ℕ × ℕ) where
  passes : (q : Key) (e : Key × X) (es : List (Key × X)) → place_of q ≡ k → (place_of e.0 ≡ k → ⊥) → find key_cmp q (e ∷ es) ≡ find key_cmp q es
  passes q e es at other = ap (λ b. cond b (Some e.1) (find key_cmp q es)) (false_from_ne_true (eq_by_cmp key_cmp q e.0) (λ t. other (ap place_of (sym (same_key_is q e.0 t)) ∙ at)))

  pub old_passed : (old new next : List (Key × X)) (e : Key × X) → old ≡ e ∷ drop 1 old → next ≡ drop 1 old → (place_of e.0 ≡ k → ⊥) → IsSameOf k next new → IsSameOf k old new
  old_passed old new next e is passed other same = λ q at. ap (find key_cmp q) is ∙ passes q e (drop 1 old) at other ∙ ap (find key_cmp q) (sym passed) ∙ same q at

  pub new_passed : (old new next : List (Key × X)) (e : Key × X) → new ≡ e ∷ drop 1 new → next ≡ drop 1 new → (place_of e.0 ≡ k → ⊥) → IsSameOf k old next → IsSameOf k old new
  new_passed old new next e is passed other same = λ q at. same q at ∙ ap (find key_cmp q) passed ∙ sym (ap (find key_cmp q) is ∙ passes q e (drop 1 new) at other)

  -- an entry that is passed is at another place
  pub absent_passed : (now next : List (Key × X)) (e : Key × X) → now ≡ e ∷ next → (place_of e.0 ≡ k → ⊥) → AtEachKey key_cmp (IsAbsent k) next → AtEachKey key_cmp (IsAbsent k) now
  absent_passed now next e is other none = λ q at. ap (find key_cmp q) is ∙ passes q e next at other ∙ none q at

  pub none_absent : (now : List (Key × X)) → now ≡ [] → AtEachKey key_cmp (IsAbsent k) now
  none_absent now none = λ q at. ap (find key_cmp q) none

  by_key : (q : Key) (e f : Key × X) (es fs : List (Key × X)) → place_of q ≡ k → e.0 ≡ f.0 → (place_of e.0 ≡ k → e.1 ≡ f.1) → find key_cmp q es ≡ find key_cmp q fs → find key_cmp q (e ∷ es) ≡ find key_cmp q (f ∷ fs)
  by_key q e f es fs at keys values rest =
      let there : eq_by_cmp key_cmp q f.0 ≡ eq_by_cmp key_cmp q e.0 = ap (eq_by_cmp key_cmp q) (sym keys) in
      elim (eq_by_cmp key_cmp q e.0) as (λ b. eq_by_cmp key_cmp q e.0 ≡ b → cond b (Some e.1) (find key_cmp q es) ≡ find key_cmp q (f ∷ fs)) [
        | true ↦ λ t.
            ap (λ v. Some v) (values (ap place_of (sym (same_key_is q e.0 t)) ∙ at))
            ∙ sym (ap (λ b. cond b (Some f.1) (find key_cmp q fs)) (there ∙ t))
        | false ↦ λ t. rest ∙ sym (ap (λ b. cond b (Some f.1) (find key_cmp q fs)) (there ∙ t))
      ] refl

  pub both_passed : (old new next after : List (Key × X)) (e f : Key × X) → old ≡ e ∷ drop 1 old → new ≡ f ∷ drop 1 new → next ≡ drop 1 old → after ≡ drop 1 new → e.0 ≡ f.0 → (place_of e.0 ≡ k → e.1 ≡ f.1)
      → IsSameOf k next after → IsSameOf k old new
  both_passed old new next after e f is also passed gone keys values same = λ q at.
      ap (find key_cmp q) is
      ∙ by_key q e f (drop 1 old) (drop 1 new) at keys values (ap (find key_cmp q) (sym passed) ∙ same q at ∙ ap (find key_cmp q) gone)
      ∙ sym (ap (find key_cmp q) also)

  -- no entry of the application is left in either list
  pub same_absent : (old new : List (Key × X)) → AtEachKey key_cmp (IsAbsent k) old → AtEachKey key_cmp (IsAbsent k) new → IsSameOf k old new
  same_absent old new none also = λ q at. none q at ∙ sym (also q at)

module _ {E : Type 0} where
  -- the rest is shorter by one
  pub one_fewer : (now next : List E) (e : E) → now ≡ e ∷ next → length next < length now
  one_fewer now next e is =
      let long = ap length is ∙ sym (add-one (length next)) in
      omega (arith, long)

  pub passed_one : (now next : List E) (e : E) → now ≡ e ∷ drop 1 now → next ≡ drop 1 now → now ≡ e ∷ next
  passed_one now next e is passed = is ∙ ap (λ l. e ∷ l) (sym passed)

  -- two lists with equal first elements
  pub same_first : (old new next after : List E) (e f : E) → old ≡ e ∷ next → new ≡ f ∷ after → e ≡ f → next ≡ after → old ≡ new
  same_first old new next after e f is also same rest = is ∙ (λ i. same i ∷ rest i) ∙ sym also

  pub none_left : (now : List E) (r : Option (Bor E)) → MatchOption r (now ≡ []) (λ e. now ≡ e.now ∷ drop 1 now) → is_some r ≡ false → now ≡ []
  none_left now None first e = first
  none_left now (Some b) first e = absurd (true≢false e)

-- ---- reads at a key, from the entries

module _ {K : Type 0} {R : K → K → Ordering} (total : IsTotalOrder R) (exact : CmpEqualImpliesEq R) where
  votes_found : (votes : Votes R) (key : K) → store_at [] (find R key (votes_by_key R votes)) ≡ votes_at R key votes
  votes_found votes key = votes_stored total exact (votes_by_key R votes) (are_votes total exact votes) key ∙ ap (votes_at R key) (votes_by_key_again total exact votes)

  pub same_votes_at : (a b : Votes R) (key : K) → find R key (votes_by_key R a) ≡ find R key (votes_by_key R b) → votes_at R key a ≡ votes_at R key b
  same_votes_at a b key e = sym (votes_found a key) ∙ ap (store_at []) e ∙ votes_found b key

  pub same_standing : (a b : Votes R) → votes_by_key R a ≡ votes_by_key R b → a ≡ b
  same_standing a b e = sym (votes_by_key_again total exact a) ∙ ap (votes_of R) e ∙ votes_by_key_again total exact b

starts_found : (starts : Writes) (key : Key) → store_at set.empty (find key_cmp key (starts_by_key starts)) ≡ dots_at key starts
starts_found starts key = dots_stored (starts_by_key starts) (are_starts starts).in_order key ∙ ap (dots_at key) (writes_again starts)

pub same_starts_at : (a b : Writes) (key : Key) → find key_cmp key (starts_by_key a) ≡ find key_cmp key (starts_by_key b) → dots_at key a ≡ dots_at key b
same_starts_at a b key e = sym (starts_found a key) ∙ ap (store_at set.empty) e ∙ starts_found b key
