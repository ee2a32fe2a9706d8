-- The meaning of a set of operations. Lists represent sets; order and repetition don't matter.
use Rattle.std.specs.Prelude.{◌≡◌, Bool, true, false, not, ◌&&◌, ◌||◌, List, [], ◌∷◌, map as list_map, Option, None, Some, if◌then◌else◌, ◌⊎◌}
use Rattle.std.specs.declared.cmp.Ordering.{Ordering}
use Rattle.std.specs.List.{list_any, flat_map}
use Rattle.std.specs.Ordering.{eq_by_cmp}
use Rattle.std.specs.FinSet as set
use Rattle.std.specs.FinMap as map
use Rattle.dac_base.specs.declared.NodeId.{NodeId}
use Rattle.dac_base.specs.declared.AppId.{AppId}
use Rattle.dac_origins.specs.declared.dot.Dot.{Dot}
use Rattle.dac_origins.specs.declared.dot.Origin.{Origin}
use Rattle.dac_origins.specs.Dots.{Dots, dot_cmp, origin_cmp}
use Rattle.dac_origins.specs.Keys.{has_key}
use Rattle.dac_lattice.specs.declared.flags.Flag.{Flag}
use Rattle.dac_lattice.specs.declared.flags.Flag.TheVariants.{Up, Down}
use Rattle.dac_lattice.specs.Pieces.{joined}
use Rattle.dac_chains.specs.declared.lives.Life.{Life}
use Rattle.dac_chains.specs.declared.claims.Claim.{Claim as ClaimValue}
use Rattle.dac_chains.specs.Greatest.{alone, greater}
use Rattle.dac_chains.specs.Lives.{Lives, life_cmp, life_report}
use Rattle.dac_chains.specs.Claims.{Claims, claim_cmp, claim_report}
use Rattle.dac_wishes.specs.declared.key.Key.{Key}
use Rattle.dac_wishes.specs.Keys.{key_cmp, same_key}
use Rattle.dac_wishes.specs.KeyedWrites.{KeyedWrite, keyed_write, keyed_write_cmp}
use Rattle.dac_wishes.specs.Writes.{Write, Writes, write, same_dot}
use Rattle.dac_wishes.specs.Votes.{Votes}
use Rattle.dac_wishes.specs.PermissionsValue.{Permits}
use Rattle.dac_wishes.specs.DrainsValue.{Drains, DrainWrite, origin}
use Rattle.dac_operations.specs.declared.act.Act.{Act}
use Rattle.dac_operations.specs.declared.act.Act.TheVariants.{Permit, Start, Drain}
use Rattle.dac_operations.specs.Operations.{Operation, over_list}
use Rattle.dac_operations.specs.Seen.{seen_life, seen_claim}
use Rattle.dac_meaning.specs.StateValue.{StateValue}
use Rattle.dac_meaning.specs.Tables.{table}

-- the operation o is in the list
abbrev pub IsOperationOf : Operation → List Operation → Type 0
IsOperationOf o [] = ⊥
IsOperationOf o (p ∷ ps) = (o ≡ p) ⊎ IsOperationOf o ps

-- each operation of os is in ps
abbrev pub AreOperationsOf : List Operation → List Operation → Type 0
AreOperationsOf os ps = (o : Operation) → IsOperationOf o os → IsOperationOf o ps

-- no two different operations in the list have the same dot
abbrev pub DotsDetermine : List Operation → Type 0
DotsDetermine os = (o p : Operation) → IsOperationOf o os → IsOperationOf p os → o.dot ≡ p.dot → o ≡ p

-- the operation has this dot
abbrev pub has_dot : Dot → Operation → Bool
has_dot d o = same_dot d o.dot

-- the operation replaces this dot
abbrev pub replaces : Dot → Operation → Bool
replaces d o = has_key dot_cmp (over_list o.act) d

-- an operation of the list replaces this dot
abbrev pub is_replaced : Dot → List Operation → Bool
is_replaced d os = list_any (replaces d) os

-- the operation with this dot stands: no operation of the list replaces it
abbrev pub Stands : Dot → List Operation → Type 0
Stands d os = (o : Operation) → IsOperationOf o os → replaces d o ≡ false

-- The heard dots: those of the operations.
abbrev pub heard_of : List Operation → Dots
heard_of os = set.from_list (list_map (λ (o : Operation). o.dot) os)

-- The known dots: those of the operations, and those that they replace.
abbrev pub known_of : List Operation → Dots
known_of os = set.from_list (flat_map (λ (o : Operation). o.dot ∷ over_list o.act) os)

-- ---- start wishes

-- the start wish of an operation, as a list
abbrev pub starts_in : Dot → Act → List Write
starts_in d (Start key over) = write key d ∷ []
starts_in d _ = []

-- The standing start wishes: those that an operation writes and none replaces.
abbrev pub starts_of : List Operation → Writes
starts_of os = set.retain (set.from_list (flat_map (λ (o : Operation). starts_in o.dot o.act) os))
    (λ (w : Write). not (is_replaced w.dot os))

-- ---- votes: operations that write a boolean at a key

-- equality of booleans
abbrev pub is_same : Bool → Bool → Bool
is_same true v = v
is_same false v = not v

-- The flag written: Down if the value for Down is written, otherwise Up if the other value is. Operations with distinct
-- dots don't write both.
abbrev pub flag_written : Bool → Bool → Option Flag
flag_written true b = Some Down
flag_written false true = Some Up
flag_written false false = None

-- the act's vote, if any, writes this value at this key
abbrev pub vote_says : {K : Type 0} → (K → K → Ordering) → K → Bool → Option (K × Bool) → Bool
vote_says R key v None = false
vote_says R key v (Some u) = eq_by_cmp R key u.0 && is_same u.1 v

-- the boolean that a flag stands for
abbrev pub value_of : Bool → Flag → Bool
value_of down Down = down
value_of down Up = not down

-- the write of a vote, as a list
abbrev pub writes_by_vote : {K : Type 0} → Dot → Option (K × Bool) → List (KeyedWrite K)
writes_by_vote d None = []
writes_by_vote d (Some u) = keyed_write u.0 d ∷ []

-- `vote` is the key and value that an act writes, if any; `down` is the value for Down
module _ {K : Type 0} (R : K → K → Ordering) (vote : Act → Option (K × Bool)) where
  -- the operation writes this vote, with this value
  abbrev pub is_vote : KeyedWrite K → Bool → Operation → Bool
  is_vote w v o = vote_says R w.key v (vote o.act) && has_dot w.dot o

  module _ (down : Bool) where
    -- the flag of this vote, from the operations that write it
    abbrev pub vote_flag : KeyedWrite K → List Operation → Option Flag
    vote_flag w os = flag_written (list_any (is_vote w down) os) (list_any (is_vote w (not down)) os)

    -- the flag of this vote, if it stands
    abbrev pub vote_at : List Operation → KeyedWrite K → Option Flag
    vote_at os w = if is_replaced w.dot os then None else vote_flag w os

    -- The standing votes: a vote stands with a value exactly if an operation writes it with this value and none
    -- replaces it.
    abbrev pub votes_of : List Operation → Votes R
    votes_of os = table (keyed_write_cmp R) (flat_map (λ (o : Operation). writes_by_vote o.dot (vote o.act)) os) (vote_at os)

-- ---- permits

-- the key that an act permits or forbids, if any, with the value
abbrev pub permit_vote : Act → Option (Key × Bool)
permit_vote (Permit key value over) = Some (key, value)
permit_vote _ = None

-- the act writes this value for the key
abbrev pub says : Key → Bool → Act → Bool
says key v a = vote_says key_cmp key v (permit_vote a)

-- the flag of the permit, if it stands
abbrev pub permit_at : List Operation → Write → Option Flag
permit_at = vote_at key_cmp permit_vote false

-- The standing permits: one stands, with a value, exactly if an operation writes it with this value and none replaces
-- it.
abbrev pub permits_of : List Operation → Permits
permits_of = votes_of key_cmp permit_vote false

-- ---- drains

-- the incarnation that an act drains or undrains, if any, with the value
abbrev pub drain_vote : Act → Option (Origin × Bool)
drain_vote (Drain node inc value over) = Some (origin node inc, value)
drain_vote _ = None

-- the flag of the drain, if it stands: true is Down
abbrev pub drain_at : List Operation → DrainWrite → Option Flag
drain_at = vote_at origin_cmp drain_vote true

-- The standing drains: one stands, with a value, exactly if an operation writes it with this value and none replaces
-- it.
abbrev pub standing_drains : List Operation → Drains
standing_drains = votes_of origin_cmp drain_vote true

-- ---- lives and claims

-- the operations as pairs
abbrev pub pairs : List Operation → List (Dot × Act)
pairs os = list_map (λ (o : Operation). (o.dot, o.act)) os

-- for each key the greatest value that the operations report
abbrev pub greatest_of : {K T : Type 0} {R : K → K → Ordering} → (T → T → Ordering) → (Dot → Act → Option (K × T))
    → List Operation → map.FinMap R T
greatest_of cmp tells os = joined (greater cmp) map.empty (λ d a. alone (tells d a)) (pairs os)

-- the node and life that an act reports, if any
abbrev pub life_said : Dot → Act → Option (NodeId × Life)
life_said d a = life_report d (seen_life a)

-- the application that an act claims, if any, with the claim
abbrev pub claim_said : Dot → Act → Option (AppId × ClaimValue)
claim_said d a = claim_report d (seen_claim a)

-- The life of each node: the greatest reported, by an Up that it is up, by a Down that it is down.
abbrev pub lives_of : List Operation → Lives
lives_of os = greatest_of life_cmp life_said os

-- The claim of each application: the greatest of those that operations make.
abbrev pub claims_of : List Operation → Claims
claims_of os = greatest_of claim_cmp claim_said os

-- ---- all parts

-- The meaning of a set of operations, as a state. The function of each part is documented above, and `MeaningLaws`
-- states them as laws.
unfoldable pub meaning_of : List Operation → StateValue
meaning_of os = record {
  heard = heard_of os;
  known = known_of os;
  permits = permits_of os;
  starts = starts_of os;
  lives = lives_of os;
  claims = claims_of os;
  drains = standing_drains os;
}

-- the operation has this dot, or replaces it
abbrev pub names : Dot → Operation → Bool
names d o = has_dot d o || replaces d o

-- the act starts the key
abbrev pub wishes : Key → Act → Bool
wishes key (Start k over) = same_key key k
wishes key _ = false

-- the operation writes this start wish
abbrev pub is_start : Write → Operation → Bool
is_start w o = wishes w.key o.act && has_dot w.dot o
