-- Permissions: the standing permits with their values, paired with the known dots; equal parts make equal values. True
-- is Up, and false Down. Permits are votes at keys.
use Rattle.std.specs.Prelude.{◌≡◌, ◌⊎◌, Bool, true, false, List, None, Some, if◌then◌else◌}
use Rattle.std.specs.List.{list_all}
use Rattle.std.specs.Coded.{Coded}
use Rattle.std.specs.FinMap as map
use Rattle.dac_origins.specs.declared.dot.Dot.{Dot}
use Rattle.dac_lattice.specs.declared.flags.Flag.{Flag}
use Rattle.dac_lattice.specs.declared.flags.Flag.TheVariants.{Up, Down}
use Rattle.dac_store.specs.DotFuns.{is_empty_list}
use Rattle.dac_wishes.specs.declared.key.Key.{Key}
use Rattle.dac_wishes.specs.Keys.{key_cmp, coded_key}
use Rattle.dac_wishes.specs.Writes.{write}
use Rattle.dac_wishes.specs.Votes.{Votes, VotesValue, coded_votes, AreVotes, AreVotesBelow, no_votes, join_votes, votes_at}

-- whether the flag means permitted
abbrev pub is_permitting : Flag → Bool
is_permitting Up = true
is_permitting Down = false

-- the flag of a permit
abbrev pub flag_of : Bool → Flag
flag_of true = Up
flag_of false = Down

-- permits with their values
abbrev pub Permits : Type 0
Permits = Votes key_cmp

abbrev pub PermissionsValue : Type 0
PermissionsValue = VotesValue key_cmp

abbrev pub coded_permissions : Coded PermissionsValue
coded_permissions = coded_votes key_cmp coded_key

-- standing permits are known, in forged values too
abbrev pub ArePermissions : PermissionsValue → Type 0
ArePermissions = AreVotes key_cmp

abbrev pub IsPermissionsBelow : PermissionsValue → PermissionsValue → Type 0
IsPermissionsBelow = AreVotesBelow key_cmp

-- nothing is known
abbrev pub no_permissions : PermissionsValue
no_permissions = no_votes key_cmp

abbrev pub join_permissions : PermissionsValue → PermissionsValue → PermissionsValue
join_permissions = join_votes key_cmp

-- the key's standing permits, in the order of their dots
abbrev pub permits_at : Key → Permits → List (Dot × Flag)
permits_at = votes_at key_cmp

-- the result of the permits at a key: the default if there is none, otherwise whether all are true
abbrev pub is_permitted_by : Bool → List (Dot × Flag) → Bool
is_permitted_by default permits = if is_empty_list permits then default else list_all (λ (p : Dot × Flag). is_permitting p.1) permits

abbrev pub is_permitted : Key → Bool → PermissionsValue → Bool
is_permitted key default v = is_permitted_by default (permits_at key v.standing)

-- no permit of the key stands
abbrev pub NoneStands : Key → PermissionsValue → Type 0
NoneStands key v = (d : Dot) → map.get v.standing (write key d) ≡ None

-- a permit of the key stands; p is its dot and value
abbrev pub SomePermitStands : Key → PermissionsValue → Type 0
SomePermitStands key v = (p : Dot × Flag) × (map.get v.standing (write key p.0) ≡ Some p.1)

-- each standing permit of the key is true
abbrev pub AllSayTrue : Key → PermissionsValue → Type 0
AllSayTrue key v = (d : Dot) (f : Flag) → map.get v.standing (write key d) ≡ Some f → f ≡ Up

-- no permit of the key stands and the default is true, or some stand and all are true
abbrev pub IsPermitted : Key → Bool → PermissionsValue → Type 0
IsPermitted key default v = (NoneStands key v × (default ≡ true)) ⊎ (SomePermitStands key v × AllSayTrue key v)
