-- The dots of the permits that stand at a key, and of the drains that stand at an origin.
use Rattle.std.specs.Prelude.{◌≡◌, Bool, true, false, ◌&&◌, T, List, [], ◌∷◌, map as list_map, is_some, refl}
use Rattle.std.proofs.Common.{sym, ap, ◌∙◌}
use Rattle.std.specs.declared.cmp.Ordering.{Ordering}
use Rattle.std.specs.Ordering.{is_lt}
use Rattle.std.specs.Cmp.{IsTotalOrder}
use Rattle.std.proofs.lemmas.Map.Lookups.{CmpEqualImpliesEq}
use Rattle.std.specs.FinMap as map
use Rattle.std.specs.FinMap.{is_sorted}
use Rattle.std.specs.FinMap.Entries.{below_all, is_some-find}
use Rattle.dac_origins.specs.declared.dot.Dot.{Dot}
use Rattle.dac_origins.specs.declared.dot.Origin.{Origin}
use Rattle.dac_origins.specs.Dots.{dot_cmp}
use Rattle.dac_origins.specs.laws.Dots.{origins_total, exact_origins}
use Rattle.dac_origins.specs.Keys.{is_below_all, is_rising, IsRising, has_key}
use Rattle.dac_lattice.specs.declared.flags.Flag.{Flag}
use Rattle.dac_wishes.specs.declared.key.Key.{Key}
use Rattle.dac_wishes.specs.Writes.{write}
use Rattle.dac_wishes.specs.PermissionsValue.{Permits, permits_at}
use Rattle.dac_wishes.specs.laws.Keys.{keys_total, exact_keys}
use Rattle.dac_wishes.specs.KeyedWrites.{keyed_write}
use Rattle.dac_wishes.specs.Votes.{Votes, votes_at}
use Rattle.dac_wishes.specs.laws.VotesByKey.{find-votes_at, votes_at-sorted}
use Rattle.dac_wishes.specs.DrainsValue.{Drains, drains_at}

holds : (b : Bool) → T b → b ≡ true
holds true h = refl
holds false h = absurd h

below-keys : (d : Dot) (es : List (Dot × Flag)) → is_below_all dot_cmp d (list_map (λ (e : Dot × Flag). e.0) es) ≡ below_all dot_cmp d es
below-keys d [] = refl
below-keys d (e ∷ es) = ap (λ b. is_lt (dot_cmp d e.0) && b) (below-keys d es)

rising-keys : (es : List (Dot × Flag)) → is_rising dot_cmp (list_map (λ (e : Dot × Flag). e.0) es) ≡ is_sorted dot_cmp es
rising-keys [] = refl
rising-keys (e ∷ es) = λ i. below-keys e.0 es i && rising-keys es i

-- ---- votes at keys of any type

module _ {K : Type 0} {R : K → K → Ordering} (total : IsTotalOrder R) (exact : CmpEqualImpliesEq R) where
  -- the dots rise
  pub votes_at-rising : (key : K) (votes : Votes R) → IsRising dot_cmp (list_map (λ (e : Dot × Flag). e.0) (votes_at R key votes))
  votes_at-rising key votes = rising-keys (votes_at R key votes) ∙ holds _ (votes_at-sorted total exact key votes)

  -- a dot is in the list exactly when its vote stands
  pub votes_at-has : (key : K) (votes : Votes R) (d : Dot) → has_key dot_cmp (list_map (λ (e : Dot × Flag). e.0) (votes_at R key votes)) d ≡ is_some (map.get votes (keyed_write key d))
  votes_at-has key votes d = sym (is_some-find dot_cmp d (votes_at R key votes)) ∙ ap is_some (find-votes_at total exact key votes d)

-- ---- permits and drains

pub permits_at-rising : (key : Key) (permits : Permits) → IsRising dot_cmp (list_map (λ (e : Dot × Flag). e.0) (permits_at key permits))
permits_at-rising = votes_at-rising keys_total exact_keys

pub permits_at-has : (key : Key) (permits : Permits) (d : Dot) → has_key dot_cmp (list_map (λ (e : Dot × Flag). e.0) (permits_at key permits)) d ≡ is_some (map.get permits (write key d))
permits_at-has = votes_at-has keys_total exact_keys

pub drains_at-rising : (at : Origin) (drains : Drains) → IsRising dot_cmp (list_map (λ (e : Dot × Flag). e.0) (drains_at at drains))
drains_at-rising = votes_at-rising origins_total exact_origins

pub drains_at-has : (at : Origin) (drains : Drains) (d : Dot) → has_key dot_cmp (list_map (λ (e : Dot × Flag). e.0) (drains_at at drains)) d ≡ is_some (map.get drains (keyed_write at d))
drains_at-has = votes_at-has origins_total exact_origins
