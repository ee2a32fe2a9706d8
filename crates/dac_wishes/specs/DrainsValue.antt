-- Drains: the standing drains with their values, paired with the known dots; equal parts make equal values. True is
-- Down, and false Up. Drains are votes at origins: an incarnation of a node is drained or not.
use Rattle.std.specs.Prelude.{◌≡◌, ℕ, Bool, true, false, List, Some}
use Rattle.std.specs.List.{list_any}
use Rattle.std.specs.Coded.{Coded}
use Rattle.std.specs.FinMap as map
use Rattle.dac_base.specs.declared.NodeId.{NodeId}
use Rattle.dac_origins.specs.declared.dot.Dot.{Dot}
use Rattle.dac_origins.specs.declared.dot.Origin.{Origin}
use Rattle.dac_origins.specs.Dots.{origin_cmp, coded_origin}
use Rattle.dac_lattice.specs.declared.flags.Flag.{Flag}
use Rattle.dac_lattice.specs.declared.flags.Flag.TheVariants.{Up, Down}
use Rattle.dac_wishes.specs.KeyedWrites.{KeyedWrite, keyed_write}
use Rattle.dac_wishes.specs.Votes.{Votes, VotesValue, coded_votes, AreVotes, AreVotesBelow, no_votes, join_votes, votes_at}

-- whether the flag means drained
abbrev pub says_drained : Flag → Bool
says_drained Up = false
says_drained Down = true

-- the flag of a drain
abbrev pub flag_of : Bool → Flag
flag_of false = Up
flag_of true = Down

-- an incarnation of a node
abbrev pub origin : NodeId → ℕ → Origin
origin node inc = record { node = node; inc = inc }

-- a drain, by its origin and the dot of the operation that writes it
abbrev pub DrainWrite : Type 0
DrainWrite = KeyedWrite Origin

-- drains with their values
abbrev pub Drains : Type 0
Drains = Votes origin_cmp

abbrev pub DrainsValue : Type 0
DrainsValue = VotesValue origin_cmp

abbrev pub coded_drains : Coded DrainsValue
coded_drains = coded_votes origin_cmp coded_origin

-- standing drains are known, in forged values too
abbrev pub AreDrains : DrainsValue → Type 0
AreDrains = AreVotes origin_cmp

abbrev pub AreDrainsBelow : DrainsValue → DrainsValue → Type 0
AreDrainsBelow = AreVotesBelow origin_cmp

-- nothing is known
abbrev pub no_drains : DrainsValue
no_drains = no_votes origin_cmp

abbrev pub join_drains : DrainsValue → DrainsValue → DrainsValue
join_drains = join_votes origin_cmp

-- the origin's standing drains, in the order of their dots
abbrev pub drains_at : Origin → Drains → List (Dot × Flag)
drains_at = votes_at origin_cmp

-- one of the origin's standing drains is true
abbrev pub is_drained : Origin → DrainsValue → Bool
is_drained at v = list_any (λ (p : Dot × Flag). says_drained p.1) (drains_at at v.standing)

-- one of the origin's standing drains is true; d is its dot
abbrev pub IsDrained : Origin → DrainsValue → Type 0
IsDrained at v = (d : Dot) × (map.get v.standing (keyed_write at d) ≡ Some Down)
