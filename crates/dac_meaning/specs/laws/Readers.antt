-- The parts of a meaning, one by one.
use Rattle.std.proofs.Common.{◌≡◌, Bool, true, false, not, cond, ◌&&◌, ◌||◌, List, ◌∷◌, Option, None, map as list_map, refl, sym, ap, ◌∙◌, Some}
use Rattle.std.specs.List.{list_any, flat_map}
use Rattle.std.specs.declared.cmp.Ordering.{Ordering}
use Rattle.std.specs.Ordering.{eq_by_cmp}
use Rattle.std.specs.Cmp.{IsTotalOrder}
use Rattle.std.specs.FinSet as set
use Rattle.std.specs.FinMap as map
use Rattle.std.proofs.lemmas.Map.Lookups.{CmpEqualImpliesEq}
use Rattle.std.proofs.lemmas.Bool.{false≢true, and_parts, and_from, or_left}
use Rattle.dac_origins.specs.declared.dot.Dot.{Dot}
use Rattle.dac_origins.specs.laws.Dots.{dots_total, origins_total, exact_origins}
use Rattle.dac_lattice.specs.declared.flags.Flag.{Flag}
use Rattle.dac_base.specs.laws.Ids.{nodes_total, exact_nodes, apps_total, exact_apps}
use Rattle.dac_origins.specs.laws.Basics.{list_any-list_map, list_any-flat_map}
use Rattle.dac_lattice.specs.Flags.{flag_cmp}
use Rattle.dac_lattice.specs.laws.Flags.{flags_exact}
use Rattle.dac_chains.specs.Greatest.{AreGreatest}
use Rattle.dac_chains.specs.Lives.{life_cmp}
use Rattle.dac_chains.specs.laws.Lives.{lives_total, exact_lives}
use Rattle.dac_chains.specs.Claims.{claim_cmp, how_cmp}
use Rattle.dac_chains.specs.laws.Claims.{claims_total, exact_hows, exact_claims}
use Rattle.dac_wishes.specs.laws.Keys.{keys_total, exact_keys}
use Rattle.dac_wishes.specs.KeyedWrites.{KeyedWrite, keyed_write_cmp, keyed_write}
use Rattle.dac_wishes.specs.laws.KeyedWrites.{keyed_writes_total, exact_keyed_writes, same_keyed_write}
use Rattle.dac_wishes.specs.Writes.{Write, write_cmp, same_dot}
use Rattle.dac_wishes.specs.laws.Writes.{writes_total, exact_writes, same_write, list_any-alike}
use Rattle.dac_wishes.specs.DrainsValue.{DrainWrite}
use Rattle.dac_operations.specs.declared.act.Act.{Act}
use Rattle.dac_operations.specs.Operations.{Operation, over_list}
use Rattle.dac_meaning.specs.laws.Tables.{get-table, given_or_none}
use Rattle.dac_meaning.specs.Meaning.{meaning_of, has_dot, is_replaced, names, starts_in, wishes, is_start, flag_written, vote_says, writes_by_vote, is_vote, vote_at, votes_of, permit_vote, permit_at, drain_vote, drain_at, pairs, life_said, claim_said, lives_of, claims_of, is_same}
use Rattle.dac_meaning.specs.laws.Members.{list_any-narrower}
use Rattle.dac_meaning.specs.laws.Chained.{are_greatest}
use Rattle.dac_operations.specs.declared.act.Act.TheVariants.{Up, Down, Permit, Start, Stop, Drain, Claim}

pub or-false : (b : Bool) → (b || false) ≡ b
or-false true = refl
or-false false = refl

-- heard: an operation has the dot
pub heard-meaning : (os : List Operation) (d : Dot) → set.contains (meaning_of os).heard d ≡ list_any (has_dot d) os
unfolding meaning_of
heard-meaning os d = set.contains-from_list dots_total (list_map (λ (o : Operation). o.dot) os) d ∙ list_any-list_map (same_dot d) (λ (o : Operation). o.dot) os

-- known: an operation has the dot or replaces it
pub known-meaning : (os : List Operation) (d : Dot) → set.contains (meaning_of os).known d ≡ list_any (names d) os
unfolding meaning_of
known-meaning os d =
    set.contains-from_list dots_total (flat_map (λ (o : Operation). o.dot ∷ over_list o.act) os) d
    ∙ list_any-flat_map (same_dot d) (λ (o : Operation). o.dot ∷ over_list o.act) os

starts_in-is : (w : Write) (d : Dot) (a : Act) → list_any (eq_by_cmp write_cmp w) (starts_in d a) ≡ (wishes w.key a && same_dot w.dot d)
starts_in-is w d (Start key over) = or-false _ ∙ same_write w key d
starts_in-is w d Up = refl
starts_in-is w d (Down node inc) = refl
starts_in-is w d (Permit key value over) = refl
starts_in-is w d (Stop key over) = refl
starts_in-is w d (Drain node inc value over) = refl
starts_in-is w d (Claim app term how from) = refl

-- start wishes: an operation writes the wish, and none replaces it
pub starts-meaning : (os : List Operation) (w : Write) → set.contains (meaning_of os).starts w ≡ (list_any (is_start w) os && not (is_replaced w.dot os))
unfolding meaning_of
starts-meaning os w =
    set.contains-retain (set.from_list (flat_map (λ (o : Operation). starts_in o.dot o.act) os)) (λ (r : Write). not (is_replaced r.dot os)) w
    (λ x e. ap (λ (r : Write). not (is_replaced r.dot os)) (sym (exact_writes w x e)))
    ∙ ap (λ b. b && not (is_replaced w.dot os))
    (set.contains-from_list writes_total (flat_map (λ (o : Operation). starts_in o.dot o.act) os) w
    ∙ list_any-flat_map (eq_by_cmp write_cmp w) (λ (o : Operation). starts_in o.dot o.act) os
    ∙ list_any-alike (λ (o : Operation). list_any (eq_by_cmp write_cmp w) (starts_in o.dot o.act)) (is_start w) (λ o. starts_in-is w o.dot o.act) os)

-- ---- votes

module _ {K : Type 0} {R : K → K → Ordering} (total : IsTotalOrder R) (exact : CmpEqualImpliesEq R) (vote : Act → Option (K × Bool)) (down : Bool) where
  -- an operation that is a vote has its write
  vote_here : (w : KeyedWrite K) (v : Bool) (d : Dot) (u : Option (K × Bool)) → (vote_says R w.key v u && same_dot w.dot d) ≡ true → list_any (eq_by_cmp (keyed_write_cmp R) w) (writes_by_vote d u) ≡ true
  vote_here w v d None h = absurd (false≢true h)
  vote_here w v d (Some u) h =
      let parts = and_parts (eq_by_cmp R w.key u.0 && is_same u.1 v) (same_dot w.dot d) h in
      or_left (eq_by_cmp (keyed_write_cmp R) w (keyed_write u.0 d)) false (same_keyed_write R w u.0 d ∙ and_from _ _ (and_parts (eq_by_cmp R w.key u.0) (is_same u.1 v) parts.0).0 parts.1)

  -- the writes of the votes of operations
  abbrev all_told : List Operation → List (KeyedWrite K)
  all_told os = flat_map (λ (o : Operation). writes_by_vote o.dot (vote o.act)) os

  -- if no operation has the write, no vote stands
  no_vote : (w : KeyedWrite K) (os : List Operation) → list_any (eq_by_cmp (keyed_write_cmp R) w) (all_told os) ≡ false → vote_at R vote down os w ≡ None
  no_vote w os none =
      let none_here = sym (list_any-flat_map (eq_by_cmp (keyed_write_cmp R) w) (λ (o : Operation). writes_by_vote o.dot (vote o.act)) os) ∙ none in
      (λ i. cond (is_replaced w.dot os) None (flag_written (not_said down none_here i) (not_said (not down) none_here i)))
      ∙ nothing (is_replaced w.dot os)
    where
      not_said : (v : Bool) → list_any (λ (o : Operation). list_any (eq_by_cmp (keyed_write_cmp R) w) (writes_by_vote o.dot (vote o.act))) os ≡ false → list_any (is_vote R vote w v) os ≡ false
      not_said v h = list_any-narrower (is_vote R vote w v) (λ o. list_any (eq_by_cmp (keyed_write_cmp R) w) (writes_by_vote o.dot (vote o.act))) (λ o. vote_here w v o.dot (vote o.act)) os h

      nothing : (b : Bool) → ◌≡◌ {A = Option Flag} (cond b None None) None
      nothing true = refl
      nothing false = refl

  -- the flag from the operations that write the vote, if none replaces it
  pub get-votes_of : (os : List Operation) (w : KeyedWrite K) → map.get (votes_of R vote down os) w ≡ vote_at R vote down os w
  get-votes_of os w =
      get-table (keyed_writes_total total) (exact_keyed_writes exact) (vote_at R vote down os) w (all_told os)
      ∙ given_or_none _ (vote_at R vote down os w) (no_vote w os)

-- permits: the flag from the operations that write the permit, if none replaces it
pub permits-meaning : (os : List Operation) (w : Write) → map.get (meaning_of os).permits w ≡ permit_at os w
unfolding meaning_of
permits-meaning = get-votes_of keys_total exact_keys permit_vote false

-- drains: the flag from the operations that write the drain, if none replaces it
pub drains-meaning : (os : List Operation) (w : DrainWrite) → map.get (meaning_of os).drains w ≡ drain_at os w
unfolding meaning_of
drains-meaning = get-votes_of origins_total exact_origins drain_vote true

-- lives: the greatest reported for each node
pub lives-meaning : (os : List Operation) → (meaning_of os).lives ≡ lives_of os
unfolding meaning_of
lives-meaning os = refl

pub lives_are : (os : List Operation) → AreGreatest life_cmp life_said (pairs os) (lives_of os)
lives_are os = are_greatest nodes_total exact_nodes lives_total (exact_lives flag_cmp flags_exact) life_said os

-- claims: the greatest made of each application
pub claims-meaning : (os : List Operation) → (meaning_of os).claims ≡ claims_of os
unfolding meaning_of
claims-meaning os = refl

pub claims_are : (os : List Operation) → AreGreatest claim_cmp claim_said (pairs os) (claims_of os)
claims_are os = are_greatest apps_total exact_apps claims_total (exact_claims how_cmp exact_hows) claim_said os
