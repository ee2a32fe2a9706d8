-- The parts of a state as bytes: permits, start wishes, lives, claims and drains. Numbers are written as in
-- `dac_bytes`: big-endian, and truncated to their low bits if they don't fit.
use Rattle.std.specs.Prelude.{ℕ, ◌+◌, List, [], ◌++◌, length, Option, None, Some}
use Rattle.std.specs.declared.cmp.Ordering.{Ordering}
use Rattle.std.specs.List.{flat_map}
use Rattle.std.specs.FinMap as map
use Rattle.dac_base.specs.declared.NodeId.{NodeId}
use Rattle.dac_base.specs.declared.AppId.{AppId}
use Rattle.dac_origins.specs.declared.dot.Dot.{Dot}
use Rattle.dac_origins.specs.declared.dot.Origin.{Origin}
use Rattle.dac_origins.specs.Dots.{Dots, origin_cmp}
use Rattle.dac_origins.specs.InOrder.{in_order}
use Rattle.dac_lattice.specs.declared.flags.Flag.{Flag}
use Rattle.dac_lattice.specs.declared.flags.Flag.TheVariants.{Up, Down}
use Rattle.dac_chains.specs.declared.lives.Life.{Life}
use Rattle.dac_chains.specs.declared.claims.Claim.{Claim}
use Rattle.dac_chains.specs.declared.claims.How.{How}
use Rattle.dac_chains.specs.declared.claims.How.TheVariants.{Normal, Failover, Takeover}
use Rattle.dac_chains.specs.Lives.{Lives}
use Rattle.dac_chains.specs.Claims.{Claims}
use Rattle.dac_wishes.specs.declared.key.Key.{Key}
use Rattle.dac_wishes.specs.Keys.{key_cmp}
use Rattle.dac_wishes.specs.Writes.{Writes}
use Rattle.dac_wishes.specs.PermissionsValue.{Permits}
use Rattle.dac_wishes.specs.DrainsValue.{Drains}
use Rattle.dac_wishes.specs.StartsByKey.{starts_by_key}
use Rattle.dac_wishes.specs.StoredVotes.{DotFlags}
use Rattle.dac_wishes.specs.Votes.{Votes}
use Rattle.dac_wishes.specs.VotesByKey.{votes_by_key}
use Rattle.dac_bytes.specs.Numbers.{u8_bytes, u16_bytes, u32_bytes, u64_bytes}
use Rattle.dac_bytes.specs.Spelling.{dot_bytes, incarnation_bytes, origin_bytes}
use Rattle.dac_bytes.specs.declared.version.Version.{Version}
use Rattle.dac_bytes.specs.declared.version.Version.TheVariants.{One, Two}

-- an application, in two bytes
abbrev pub app_bytes : AppId → List ℕ
app_bytes app = u16_bytes app.0

-- a key's node and incarnation
abbrev pub key_origin : Key → Origin
key_origin key = record { node = key.node; inc = key.inc }

-- application, node and incarnation, in seven or eleven bytes
unfoldable pub key_bytes : Version → Key → List ℕ
key_bytes version key = app_bytes key.app ++ origin_bytes version (key_origin key)

-- ---- votes: permits and drains

-- the code of a vote's value, 0 for false and 1 for true, given the flag that represents true
abbrev pub code_of_flag : Flag → Flag → ℕ
code_of_flag Up Up = 1
code_of_flag Up Down = 0
code_of_flag Down Up = 0
code_of_flag Down Down = 1

-- a vote: its dot and its value
unfoldable pub vote_bytes : Version → Flag → Dot × Flag → List ℕ
vote_bytes version truth p = dot_bytes version p.0 ++ u8_bytes (code_of_flag truth p.1)

-- the number of a key's votes, and these
unfoldable pub votes_of_key_bytes : Version → Flag → DotFlags → List ℕ
votes_of_key_bytes version truth ps = u32_bytes (length ps) ++ flat_map (vote_bytes version truth) ps

-- a key by its own spelling, and its votes
unfoldable pub keyed_votes_bytes : {K : Type 0} → (K → List ℕ) → Version → Flag → K × DotFlags → List ℕ
keyed_votes_bytes key_text version truth e = key_text e.0 ++ votes_of_key_bytes version truth e.1

-- the number of keys with votes, and the votes of each, in ascending order
unfoldable pub votes_bytes : {K : Type 0} (R : K → K → Ordering) → (K → List ℕ) → Version → Flag → Votes R → List ℕ
votes_bytes R key_text version truth votes = u32_bytes (length (votes_by_key R votes))
    ++ flat_map (keyed_votes_bytes key_text version truth) (votes_by_key R votes)

-- permits, for which Up represents true
abbrev pub permits_bytes : Version → Permits → List ℕ
permits_bytes version = votes_bytes key_cmp (key_bytes version) version Up

-- drains, for which Down represents true; version one has no bytes for them
abbrev pub drains_bytes : Version → Drains → List ℕ
drains_bytes One drains = []
drains_bytes Two drains = votes_bytes origin_cmp (origin_bytes Two) Two Down drains

-- ---- start wishes

-- a key, the number of its start wishes, and their dots
unfoldable pub keyed_dots_bytes : Version → Key × List Dot → List ℕ
keyed_dots_bytes version e = key_bytes version e.0 ++ u32_bytes (length e.1) ++ flat_map (dot_bytes version) e.1

-- the number of keys with start wishes, and the dots of each, in ascending order
unfoldable pub starts_bytes : Version → Writes → List ℕ
starts_bytes version writes = u32_bytes (length (starts_by_key writes))
    ++ flat_map (λ (e : Key × Dots). keyed_dots_bytes version (e.0, in_order e.1)) (starts_by_key writes)

-- ---- lives

-- whether an incarnation is up (0) or down (1)
abbrev pub down_code : Flag → ℕ
down_code Up = 0
down_code Down = 1

-- a node, its incarnation, and whether it is up
unfoldable pub life_bytes : Version → NodeId × Life → List ℕ
life_bytes version e = u8_bytes e.0.0 ++ incarnation_bytes version e.1.inc ++ u8_bytes (down_code e.1.flag)

-- the number of nodes with a life, and each life, in ascending order
unfoldable pub lives_bytes : Version → Lives → List ℕ
lives_bytes version lives = u8_bytes (length (map.entries lives)) ++ flat_map (life_bytes version) (map.entries lives)

-- ---- claims

-- how an application came to its node: 1 for normal, 2 for a failover, 3 for a takeover
abbrev pub how_code : How → ℕ
how_code Normal = 1
how_code Failover = 2
how_code Takeover = 3

-- the node that it was taken from: 0 for none, otherwise one more than the node
abbrev pub from_code : Option NodeId → ℕ
from_code None = 0
from_code (Some node) = node.0 + 1

-- how an application came to its node, and from which, in two bytes
unfoldable pub manner_bytes : How → Option NodeId → List ℕ
manner_bytes how from = u8_bytes (how_code how) ++ u8_bytes (from_code from)

-- an application, the term of its claim, the claiming incarnation, and how the application came there
unfoldable pub claim_bytes : Version → AppId × Claim → List ℕ
claim_bytes version e =
    app_bytes e.0 ++ u64_bytes e.1.term ++ origin_bytes version e.1.origin ++ manner_bytes e.1.how e.1.from

-- the number of claimed applications, and each claim, in ascending order
unfoldable pub claims_bytes : Version → Claims → List ℕ
claims_bytes version claims =
    u16_bytes (length (map.entries claims)) ++ flat_map (claim_bytes version) (map.entries claims)
