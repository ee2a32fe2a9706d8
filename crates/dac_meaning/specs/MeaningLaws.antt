-- The laws of meanings, in terms of the operations.
use Rattle.std.specs.Prelude.{Bool, false, ◌≡◌, ◌≤◌, ◌↔◌, ℕ, true, Option, Some, List, [], ◌++◌, ◌⊎◌}
use Rattle.std.specs.FinSet as set
use Rattle.std.specs.FinMap as map
use Rattle.dac_base.specs.declared.NodeId.{NodeId}
use Rattle.dac_base.specs.declared.AppId.{AppId}
use Rattle.dac_origins.specs.declared.dot.Dot.{Dot}
use Rattle.dac_lattice.specs.declared.flags.Flag.{Flag}
use Rattle.dac_lattice.specs.declared.flags.Flag.TheVariants.{Up as IsUp, Down as IsDown}
use Rattle.dac_chains.specs.declared.lives.Life.{Life}
use Rattle.dac_chains.specs.declared.claims.Claim.{Claim as ClaimValue}
use Rattle.dac_chains.specs.Greatest.{IsGreatest}
use Rattle.dac_chains.specs.Lives.{life_cmp, IsLive}
use Rattle.dac_chains.specs.Claims.{claim_cmp}
use Rattle.dac_wishes.specs.declared.key.Key.{Key}
use Rattle.dac_wishes.specs.KeyedWrites.{KeyedWrite}
use Rattle.dac_wishes.specs.Writes.{Write}
use Rattle.dac_wishes.specs.WishesValue.{SomeStands}
use Rattle.dac_wishes.specs.PermissionsValue.{is_permitting, IsPermitted}
use Rattle.dac_wishes.specs.DrainsValue.{DrainWrite, origin, says_drained, IsDrained}
use Rattle.dac_operations.specs.declared.act.Act.{Act}
use Rattle.dac_operations.specs.declared.act.Act.TheVariants.{Up, Down, Permit, Start, Drain, Claim}
use Rattle.dac_operations.specs.Operations.{Operation}
use Rattle.dac_meaning.specs.StateValue.{IsState, permissions_of, wishes_of, drains_of, bottom, join}
use Rattle.dac_meaning.specs.Meaning.{meaning_of, replaces, IsOperationOf, AreOperationsOf, DotsDetermine, Stands}

-- a dot is heard exactly if it is an operation's own
abbrev pub HeardAreDots : Type 0
HeardAreDots = (os : List Operation) (d : Dot)
    → (set.contains (meaning_of os).heard d ≡ true) ↔ ((o : Operation) × (IsOperationOf o os × (o.dot ≡ d)))

-- the operation has the dot or replaces it
abbrev pub Names : Dot → Operation → Type 0
Names d o = (o.dot ≡ d) ⊎ (replaces d o ≡ true)

-- a dot is known exactly if an operation has it or replaces it
abbrev pub KnownAreNamed : Type 0
KnownAreNamed = (os : List Operation) (d : Dot)
    → (set.contains (meaning_of os).known d ≡ true) ↔ ((o : Operation) × (IsOperationOf o os × Names d o))

-- the operation starts the key
abbrev pub Starts : Key → Operation → Type 0
Starts key o = (over : List Dot) × (o.act ≡ Start key over)

-- the operation writes the start wish
abbrev pub IsStart : Write → Operation → Type 0
IsStart w o = (o.dot ≡ w.dot) × Starts w.key o

-- a start wish stands exactly if an operation writes it and none replaces it
abbrev pub StartsAreUnreplaced : Type 0
StartsAreUnreplaced = (os : List Operation) (w : Write)
    → (set.contains (meaning_of os).starts w ≡ true) ↔ (((o : Operation) × (IsOperationOf o os × IsStart w o)) × Stands w.dot os)

-- the operation writes the vote, with this value
abbrev pub IsVote : {K : Type 0} → (Act → Option (K × Bool)) → KeyedWrite K → Bool → Operation → Type 0
IsVote vote w v o = (o.dot ≡ w.dot) × (vote o.act ≡ Some (w.key, v))

-- the operation permits the key, or forbids it
abbrev pub Permits : Key → Bool → Operation → Type 0
Permits key value o = (over : List Dot) × (o.act ≡ Permit key value over)

-- the operation writes the permit, with this value
abbrev pub IsPermit : Write → Flag → Operation → Type 0
IsPermit w f o = (o.dot ≡ w.dot) × Permits w.key (is_permitting f) o

-- a permit stands with a value exactly if an operation writes it with this value and none replaces it, provided that no
-- two different operations have the same dot
abbrev pub PermitsAreUnreplaced : Type 0
PermitsAreUnreplaced = (os : List Operation) → DotsDetermine os → (w : Write) (f : Flag)
    → (map.get (meaning_of os).permits w ≡ Some f) ↔ (((o : Operation) × (IsOperationOf o os × IsPermit w f o)) × Stands w.dot os)

-- the operation drains the incarnation of the node, or undrains it
abbrev pub DrainsSo : NodeId → ℕ → Bool → Operation → Type 0
DrainsSo n i value o = (over : List Dot) × (o.act ≡ Drain n i value over)

-- the operation writes the drain, with this value
abbrev pub IsDrain : DrainWrite → Flag → Operation → Type 0
IsDrain w f o = (o.dot ≡ w.dot) × DrainsSo w.key.node w.key.inc (says_drained f) o

-- a drain stands with a value exactly if an operation writes it with this value and none replaces it, provided that no
-- two different operations have the same dot
abbrev pub DrainsAreUnreplaced : Type 0
DrainsAreUnreplaced = (os : List Operation) → DotsDetermine os → (w : DrainWrite) (f : Flag)
    → (map.get (meaning_of os).drains w ≡ Some f) ↔ (((o : Operation) × (IsOperationOf o os × IsDrain w f o)) × Stands w.dot os)

-- the operation is the coming up of this incarnation of the node
abbrev pub IsUpOf : NodeId → ℕ → Operation → Type 0
IsUpOf n i o = (o.act ≡ Up) × (o.dot.origin ≡ record { node = n; inc = i })

-- the operation reports this life of the node: an Up of the node that it is up, a Down about it that it is down
abbrev pub SaysLife : NodeId → Life → Operation → Type 0
SaysLife n l o = ((l.flag ≡ IsUp) × IsUpOf n l.inc o) ⊎ ((l.flag ≡ IsDown) × (o.act ≡ Down n l.inc))

-- the life of a node is the greatest that the operations report
abbrev pub LivesAreGreatest : Type 0
LivesAreGreatest = (os : List Operation) (n : NodeId)
    → IsGreatest life_cmp (λ l. (o : Operation) × (IsOperationOf o os × SaysLife n l o)) (map.get (meaning_of os).lives n)

-- neither the incarnation that a Down names nor an earlier one of the node is live, whatever the other operations
abbrev pub DownStaysDown : Type 0
DownStaysDown = (os : List Operation) (n : NodeId) (i j : ℕ) → ((o : Operation) × (IsOperationOf o os × (o.act ≡ Down n i)))
    → j ≤ i → ¬ (IsLive (meaning_of os).lives n j)

-- the operation makes this claim of the application
abbrev pub IsClaim : AppId → ClaimValue → Operation → Type 0
IsClaim app c o = (o.dot.origin ≡ c.origin) × (o.act ≡ Claim app c.term c.how c.from)

-- the claim of an application is the greatest of its claims
abbrev pub ClaimsAreGreatest : Type 0
ClaimsAreGreatest = (os : List Operation) (app : AppId)
    → IsGreatest claim_cmp (λ c. (o : Operation) × (IsOperationOf o os × IsClaim app c o)) (map.get (meaning_of os).claims app)

-- heard dots and the dots of standing writes are known
abbrev pub MeaningsAreStates : Type 0
MeaningsAreStates = (os : List Operation) → IsState (meaning_of os)

-- no operations mean the least state
abbrev pub NothingMeansBottom : Type 0
NothingMeansBottom = meaning_of [] ≡ bottom

-- lists of the same operations have the same meaning, whatever the order and repetition
abbrev pub OrderAndRepeatsAreNothing : Type 0
OrderAndRepeatsAreNothing = (os ps : List Operation) → AreOperationsOf os ps → AreOperationsOf ps os → meaning_of os ≡ meaning_of ps

-- the join of two meanings is the meaning of all the operations
abbrev pub JoinsAreTogether : Type 0
JoinsAreTogether =
    (os ps : List Operation) → DotsDetermine (os ++ ps) → join (meaning_of os) (meaning_of ps) ≡ meaning_of (os ++ ps)

-- a start of a key stands exactly if an operation that none replaces starts it
abbrev pub WishedHaveStarts : Type 0
WishedHaveStarts = (os : List Operation) (key : Key)
    → SomeStands key (wishes_of (meaning_of os)) ↔ ((o : Operation) × (IsOperationOf o os × (Starts key o × Stands o.dot os)))

-- an operation that none replaces permits the key, or forbids it
abbrev pub StandingPermit : Key → Bool → List Operation → Type 0
StandingPermit key value os = (o : Operation) × (IsOperationOf o os × (Permits key value o × Stands o.dot os))

-- no permit of the key stands and the default is true, or one that is true stands and none that is false
abbrev pub IsPermittedBy : Key → Bool → List Operation → Type 0
IsPermittedBy key default os = (((value : Bool) → ¬ (StandingPermit key value os)) × (default ≡ true))
    ⊎ (StandingPermit key true os × ¬ (StandingPermit key false os))

-- a key is permitted in a meaning exactly if the operations permit it, provided that no two different ones have the
-- same dot
abbrev pub PermittedAreSaid : Type 0
PermittedAreSaid = (os : List Operation) → DotsDetermine os → (key : Key) (default : Bool)
    → IsPermitted key default (permissions_of (meaning_of os)) ↔ IsPermittedBy key default os

-- an incarnation of a node is drained in a meaning exactly if an operation that none replaces drains it, provided that
-- no two different ones have the same dot
abbrev pub DrainedAreSaid : Type 0
DrainedAreSaid = (os : List Operation) → DotsDetermine os → (n : NodeId) (i : ℕ)
    → IsDrained (origin n i) (drains_of (meaning_of os))
    ↔ ((o : Operation) × (IsOperationOf o os × (DrainsSo n i true o × Stands o.dot os)))
