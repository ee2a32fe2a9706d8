-- Votes: operations that write a boolean at a key, as a flag, and replace one another. A value consists of the standing
-- votes and the known dots, for keys of any type; equal parts make equal values. Permits and drains are votes.
use Rattle.std.specs.Prelude.{◌≡◌, true, List, filter, map as list_map, Option, is_some, refl}
use Rattle.std.specs.declared.cmp.Ordering.{Ordering}
use Rattle.std.specs.Ordering.{eq_by_cmp}
use Rattle.std.specs.Coded.{Coded, code_by, coded×}
use Rattle.std.specs.FinSet as set
use Rattle.std.specs.FinMap as map
use Rattle.dac_origins.specs.declared.dot.Dot.{Dot}
use Rattle.dac_origins.specs.Dots.{Dots, IsSubset, coded_dot}
use Rattle.dac_lattice.specs.declared.flags.Flag.{Flag}
use Rattle.dac_lattice.specs.Flags.{IsFlagBelow, join_flags, coded_flag}
use Rattle.dac_lattice.specs.Entries.{merge_entries}
use Rattle.dac_store.specs.AtDot.{StandsBelow, join_at}
use Rattle.dac_wishes.specs.KeyedWrites.{KeyedWrite, keyed_write_cmp, coded_keyed_write}

-- votes with their values, by key and dot
abbrev pub Votes : {K : Type 0} → (K → K → Ordering) → Type 0
Votes R = map.FinMap (keyed_write_cmp R) Flag

pub record VotesValue {K : Type 0} (R : K → K → Ordering) : Type 0 where
  -- the dots of the operations, and those that they replace
  pub known : Dots
  -- the votes that no operation replaces
  pub standing : Votes R

abbrev pub coded_votes : {K : Type 0} (R : K → K → Ordering) → Coded K → Coded (VotesValue R)
coded_votes R coded_key =
    code_by (Dots × Votes R) (coded× (set.code coded_dot) (map.code (coded_keyed_write coded_key) coded_flag)) (λ v. (v.known, v.standing)) (λ p. record { known = p.0; standing = p.1 }) (λ _. refl)

-- standing votes are known, in forged values too
abbrev pub AreVotes : {K : Type 0} (R : K → K → Ordering) → VotesValue R → Type 0
AreVotes {K = K} R v = (w : KeyedWrite K) → is_some (map.get v.standing w) ≡ true → set.contains v.known w.dot ≡ true

-- x is below y: y knows all that x knows, and each vote that stands in y and is known to x stands in x, with a value
-- that isn't greater. Stated without join.
pub record AreVotesBelow {K : Type 0} (R : K → K → Ordering) (x y : VotesValue R) : Type 0 where
  pub known : IsSubset x.known y.known
  pub standing : (w : KeyedWrite K) → set.contains x.known w.dot ≡ true
      → StandsBelow IsFlagBelow (map.get x.standing w) (map.get y.standing w)

-- nothing is known
abbrev pub no_votes : {K : Type 0} (R : K → K → Ordering) → VotesValue R
no_votes R = record { known = set.empty; standing = map.empty }

-- The vote in a join: the greater value if it stands on both sides; if it stands on one side, its value unless the
-- other side knows its dot
abbrev pub joined_vote : {K : Type 0} (R : K → K → Ordering) → VotesValue R → VotesValue R → KeyedWrite K → Option Flag
    → Option Flag → Option Flag
joined_vote R x y w = join_at join_flags (set.contains x.known w.dot) (set.contains y.known w.dot)

unfoldable pub join_votes : {K : Type 0} (R : K → K → Ordering) → VotesValue R → VotesValue R → VotesValue R
join_votes R x y = record {
  known = set.union x.known y.known;
  standing = map.from_entries
      (merge_entries (keyed_write_cmp R) (joined_vote R x y) (map.entries x.standing) (map.entries y.standing));
}

-- the votes in the list that are at the key, by their dots
abbrev pub votes_among : {K : Type 0} (R : K → K → Ordering) → K → List (KeyedWrite K × Flag) → List (Dot × Flag)
votes_among {K = K} R key es = list_map (λ (e : KeyedWrite K × Flag). (e.0.dot, e.1)) (filter
    (λ (e : KeyedWrite K × Flag). eq_by_cmp R e.0.key key) es)

-- the key's standing votes, in the order of their dots
abbrev pub votes_at : {K : Type 0} (R : K → K → Ordering) → K → Votes R → List (Dot × Flag)
votes_at R key votes = votes_among R key (map.entries votes)
