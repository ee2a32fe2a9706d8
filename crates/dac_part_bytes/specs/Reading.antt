-- Reading the parts of a state from left to right, up to the first fault. Names must be those of a configuration, and
-- standing dots must be known.
use Rattle.std.specs.Prelude.{ℕ, zero, suc, ◌-◌, ◌^◌, Bool, ◌==◌, List, Option, Some, None, is_some, Ok, nat_lt, if◌then◌else◌}
use Rattle.std.specs.Int.{w8, w16, w32}
use Rattle.std.specs.declared.cmp.Ordering.{Ordering}
use Rattle.std.specs.FinSet as set
use Rattle.std.specs.FinMap as map
use Rattle.dac_base.specs.declared.NodeId.{NodeId}
use Rattle.dac_base.specs.declared.AppId.{AppId}
use Rattle.dac_base.specs.Ids.{app_cmp, node_cmp}
use Rattle.dac_origins.specs.declared.dot.Dot.{Dot}
use Rattle.dac_origins.specs.declared.dot.Origin.{Origin}
use Rattle.dac_origins.specs.Dots.{Dots, origin_cmp}
use Rattle.dac_lattice.specs.declared.flags.Flag.{Flag}
use Rattle.dac_lattice.specs.declared.flags.Flag.TheVariants.{Up, Down}
use Rattle.dac_chains.specs.declared.lives.Life.{Life}
use Rattle.dac_chains.specs.declared.claims.Claim.{Claim}
use Rattle.dac_chains.specs.declared.claims.How.{How}
use Rattle.dac_chains.specs.declared.claims.How.TheVariants.{Normal, Failover, Takeover}
use Rattle.dac_chains.specs.Lives.{Lives}
use Rattle.dac_chains.specs.Claims.{Claims}
use Rattle.dac_wishes.specs.declared.key.Key.{Key}
use Rattle.dac_wishes.specs.Keys.{key_cmp}
use Rattle.dac_wishes.specs.Writes.{Writes}
use Rattle.dac_wishes.specs.PermissionsValue.{Permits}
use Rattle.dac_wishes.specs.DrainsValue.{Drains}
use Rattle.dac_wishes.specs.StoredVotes.{DotFlags, votes_of}
use Rattle.dac_wishes.specs.Votes.{Votes}
use Rattle.dac_wishes.specs.StoredWishes.{writes_of}
use Rattle.dac_config.specs.Table.{Table, node_count, app_count, group_of}
use Rattle.dac_bytes.specs.declared.fault.ReadFaultKind.TheVariants.{BadNumber, BadOrder, BadName, NotInList, NotKnown}
use Rattle.dac_bytes.specs.Reading.{Rest, Field, fault, ◌>>=◌, number_at, range_at, node_at, incarnation_at, counter_at, origin_at, origin_above_at, dot_above_at, is_above, counted_at}
use Rattle.dac_bytes.specs.declared.version.Version.{Version}
use Rattle.dac_bytes.specs.declared.version.Version.TheVariants.{One, Two}

-- ---- keys

-- an application, whose number is less than the number of applications
unfoldable pub app_at : ℕ → Rest → Field AppId
app_at apps r = do
  n ← number_at w16 r
  if nat_lt n.0 apps then Ok (record { 0 = n.0 }, n.1) else fault BadName r

-- an application with an incarnation of a node
abbrev pub key_of : AppId → Origin → Key
key_of app origin = record { app = app; node = origin.node; inc = origin.inc }

-- whether the node is in the application's list
abbrev pub is_listed : Table → AppId → NodeId → Bool
is_listed t app node = is_some (group_of t app node)

-- application, node and incarnation
unfoldable pub key_fields_at : Version → Table → Rest → Field Key
key_fields_at version t r = do
  app ← app_at (app_count t) r
  origin ← origin_at version (node_count t) app.1
  Ok (key_of app.0 origin.0, origin.1)

-- a key, whose node is in the application's list
unfoldable pub listed_key_at : Version → Table → Rest → Field Key
listed_key_at version t r = do
  key ← key_fields_at version t r
  if is_listed t key.0.app key.0.node then Ok key else fault NotInList r

-- a key greater than the previous one
unfoldable pub key_above_at : Version → Table → Option Key → Rest → Field Key
key_above_at version t before r = do
  key ← listed_key_at version t r
  if is_above key_cmp before key.0 then Ok key else fault BadOrder r

-- ---- votes: permits and drains

-- a known dot, greater than the previous one
unfoldable pub known_dot_at : Version → ℕ → Dots → Option Dot → Rest → Field Dot
known_dot_at version nodes known before r = do
  d ← dot_above_at version nodes before r
  if set.contains known d.0 then Ok d else fault NotKnown r

-- the flag of a vote's code, given the flag that represents true
abbrev pub flag_of_code : Flag → ℕ → Flag
flag_of_code Up zero = Down
flag_of_code Up (suc n) = Up
flag_of_code Down zero = Up
flag_of_code Down (suc n) = Down

-- a vote: its dot and its value
unfoldable pub vote_at : Version → ℕ → Dots → Flag → Option Dot → Rest → Field (Dot × Flag)
vote_at version nodes known truth before r = do
  d ← known_dot_at version nodes known before r
  value ← range_at w8 0 1 d.1
  Ok ((d.0, flag_of_code truth value.0), value.1)

-- a count of at least one
abbrev pub some_at : Rest → Field ℕ
some_at r = range_at w32 1 (2 ^ 32 - 1) r

-- the votes of a key, at least one
unfoldable pub votes_of_key_at : Version → ℕ → Dots → Flag → Rest → Field DotFlags
votes_of_key_at version nodes known truth r =
    counted_at some_at (vote_at version nodes known truth) (λ (p : Dot × Flag). p.0) r

-- a key greater than the previous one, with its votes
unfoldable pub keyed_votes_at : {K : Type 0} → (Option K → Rest → Field K) → (Rest → Field DotFlags) → Option K → Rest
    → Field (K × DotFlags)
keyed_votes_at key_above votes before r = do
  key ← key_above before r
  ps ← votes key.1
  Ok ((key.0, ps.0), ps.1)

-- the votes by key, as a list
unfoldable pub votes_by_key_at : {K : Type 0} → (Option K → Rest → Field K) → (Rest → Field DotFlags) → Rest
    → Field (List (K × DotFlags))
votes_by_key_at {K =
    K} key_above votes r = counted_at (number_at w32) (keyed_votes_at key_above votes) (λ (e : K × DotFlags). e.0) r

-- the votes of all keys, as a map
unfoldable pub all_votes_at : {K : Type 0} (R : K → K → Ordering) → (Option K → Rest → Field K)
    → (Rest → Field DotFlags) → Rest → Field (Votes R)
all_votes_at R key_above votes r = do
  keyed ← votes_by_key_at key_above votes r
  Ok (votes_of R keyed.0, keyed.1)

-- the permits of a key, for which Up represents true
abbrev pub permits_of_key_at : Version → Table → Dots → Rest → Field DotFlags
permits_of_key_at version t known = votes_of_key_at version (node_count t) known Up

-- the permits of all keys
abbrev pub all_permits_at : Version → Table → Dots → Rest → Field Permits
all_permits_at version t known = all_votes_at key_cmp (key_above_at version t) (permits_of_key_at version t known)

-- the drains of an incarnation of a node, for which Down represents true
abbrev pub drains_of_key_at : Table → Dots → Rest → Field DotFlags
drains_of_key_at t known = votes_of_key_at Two (node_count t) known Down

-- the drains; version one has none
abbrev pub all_drains_at : Version → Table → Dots → Rest → Field Drains
all_drains_at One t known r = Ok (map.empty, r)
all_drains_at Two t known r = all_votes_at origin_cmp (origin_above_at Two (node_count t)) (drains_of_key_at t known) r

-- ---- start wishes

-- the dots of the start wishes of a key, at least one
unfoldable pub dots_of_key_at : Version → ℕ → Dots → Rest → Field (List Dot)
dots_of_key_at version nodes known r = counted_at some_at (known_dot_at version nodes known) (λ (d : Dot). d) r

-- a key greater than the previous one, with the dots of its start wishes
unfoldable pub keyed_dots_at : Version → Table → Dots → Option Key → Rest → Field (Key × Dots)
keyed_dots_at version t known before r = do
  key ← key_above_at version t before r
  dots ← dots_of_key_at version (node_count t) known key.1
  Ok ((key.0, set.from_list dots.0), dots.1)

-- the start wishes by key, as a list
unfoldable pub starts_by_key_at : Version → Table → Dots → Rest → Field (List (Key × Dots))
starts_by_key_at version t known r =
    counted_at (number_at w32) (keyed_dots_at version t known) (λ (e : Key × Dots). e.0) r

-- the start wishes, as a set
unfoldable pub all_starts_at : Version → Table → Dots → Rest → Field Writes
all_starts_at version t known r = do
  keyed ← starts_by_key_at version t known r
  Ok (writes_of keyed.0, keyed.1)

-- ---- lives

-- a node greater than the previous one
unfoldable pub node_above_at : ℕ → Option NodeId → Rest → Field NodeId
node_above_at nodes before r = do
  node ← node_at nodes r
  if is_above node_cmp before node.0 then Ok node else fault BadOrder r

-- up or down, by its code
abbrev pub flag_of : ℕ → Flag
flag_of zero = Up
flag_of (suc n) = Down

-- an incarnation, and whether it is up
unfoldable pub inc_and_flag_at : Version → Rest → Field Life
inc_and_flag_at version r = do
  inc ← incarnation_at version r
  down ← range_at w8 0 1 inc.1
  Ok (record { inc = inc.0; flag = flag_of down.0 }, down.1)

-- the life of a node greater than the previous one
unfoldable pub life_at : Version → ℕ → Option NodeId → Rest → Field (NodeId × Life)
life_at version nodes before r = do
  node ← node_above_at nodes before r
  life ← inc_and_flag_at version node.1
  Ok ((node.0, life.0), life.1)

-- the lives, as a list in order
unfoldable pub lives_in_order_at : Version → ℕ → Rest → Field (List (NodeId × Life))
lives_in_order_at version nodes r = counted_at (number_at w8) (life_at version nodes) (λ (e : NodeId × Life). e.0) r

-- the lives, as a map
unfoldable pub all_lives_at : Version → ℕ → Rest → Field Lives
all_lives_at version nodes r = do
  lives ← lives_in_order_at version nodes r
  Ok (map.from_entries lives.0, lives.1)

-- ---- claims

-- how an application came to its node, by code
abbrev pub how_of : ℕ → How
how_of zero = Normal
how_of (suc zero) = Normal
how_of (suc (suc zero)) = Failover
how_of (suc (suc (suc n))) = Takeover

-- how an application came to its node: a code from 1 to 3
unfoldable pub how_at : Rest → Field How
how_at r = do
  n ← range_at w8 1 3 r
  Ok (how_of n.0, n.1)

-- the code of no node, or of an existing one
unfoldable pub from_code_at : ℕ → Rest → Field ℕ
from_code_at nodes r = do
  n ← number_at w8 r
  if nat_lt nodes n.0 then fault BadName r else Ok n

-- whether the code fits: `Normal` has no previous node, and the others have one
abbrev pub is_from_of : How → ℕ → Bool
is_from_of Normal n = n == 0
is_from_of Failover n = nat_lt 0 n
is_from_of Takeover n = nat_lt 0 n

-- the code of a node, consistent with how the application came
unfoldable pub fitting_code_at : ℕ → How → Rest → Field ℕ
fitting_code_at nodes how r = do
  n ← from_code_at nodes r
  if is_from_of how n.0 then Ok n else fault BadNumber r

-- the node that an application was taken from, by code
abbrev pub from_of : ℕ → Option NodeId
from_of zero = None
from_of (suc n) = Some (record { 0 = n })

-- the node that an application was taken from
unfoldable pub from_at : ℕ → How → Rest → Field (Option NodeId)
from_at nodes how r = do
  n ← fitting_code_at nodes how r
  Ok (from_of n.0, n.1)

-- how an application came to its node, and from which
unfoldable pub manner_at : ℕ → Rest → Field (How × Option NodeId)
manner_at nodes r = do
  how ← how_at r
  from ← from_at nodes how.0 how.1
  Ok ((how.0, from.0), from.1)

-- the claiming incarnation, and how the application came there
unfoldable pub claimer_at : Version → ℕ → Rest → Field (Origin × (How × Option NodeId))
claimer_at version nodes r = do
  origin ← origin_at version nodes r
  manner ← manner_at nodes origin.1
  Ok ((origin.0, manner.0), manner.1)

-- a claim, given its term and its other fields
abbrev pub claim_of : ℕ → Origin × (How × Option NodeId) → Claim
claim_of term claimer = record { term = term; origin = claimer.0; how = claimer.1.0; from = claimer.1.1 }

-- a claim, whose term comes first
unfoldable pub term_and_claimer_at : Version → ℕ → Rest → Field Claim
term_and_claimer_at version nodes r = do
  term ← counter_at r
  claimer ← claimer_at version nodes term.1
  Ok (claim_of term.0 claimer.0, claimer.1)

-- the fields of an application's claim
unfoldable pub claim_fields_at : Version → Table → Rest → Field (AppId × Claim)
claim_fields_at version t r = do
  app ← app_at (app_count t) r
  claim ← term_and_claimer_at version (node_count t) app.1
  Ok ((app.0, claim.0), claim.1)

-- an application's claim, whose node is in its list
unfoldable pub listed_claim_at : Version → Table → Rest → Field (AppId × Claim)
listed_claim_at version t r = do
  e ← claim_fields_at version t r
  if is_listed t e.0.0 e.0.1.origin.node then Ok e else fault NotInList r

-- the claim of an application greater than the previous one
unfoldable pub claim_at : Version → Table → Option AppId → Rest → Field (AppId × Claim)
claim_at version t before r = do
  e ← listed_claim_at version t r
  if is_above app_cmp before e.0.0 then Ok e else fault BadOrder r

-- the claims, as a list in order
unfoldable pub claims_in_order_at : Version → Table → Rest → Field (List (AppId × Claim))
claims_in_order_at version t r = counted_at (number_at w16) (claim_at version t) (λ (e : AppId × Claim). e.0) r

-- the claims, as a map
unfoldable pub all_claims_at : Version → Table → Rest → Field Claims
all_claims_at version t r = do
  claims ← claims_in_order_at version t r
  Ok (map.from_entries claims.0, claims.1)
