-- The meaning of a set of operations for votes: the standing votes with their values, and the known dots. The vote of
-- an operation's act is the key and flag that it writes, if any.
use Rattle.std.specs.Prelude.{◌≡◌, List, [], ◌∷◌, Option, None, Some, if◌then◌else◌}
use Rattle.std.specs.declared.cmp.Ordering.{Ordering}
use Rattle.std.specs.Ordering.{eq_by_cmp}
use Rattle.std.specs.FinMap as map
use Rattle.dac_origins.specs.declared.dot.Dot.{Dot}
use Rattle.dac_lattice.specs.declared.flags.Flag.{Flag}
use Rattle.dac_wishes.specs.KeyedWrites.{KeyedWrite, keyed_write}
use Rattle.dac_wishes.specs.Votes.{VotesValue}
use Rattle.dac_wishes.specs.Replacing.{is_under, is_replaced, named_by, AreNamedIn}

-- the first of two that is present
abbrev pub or_else : {X : Type 0} → Option X → Option X → Option X
or_else None y = y
or_else (Some x) y = Some x

-- the flag of a vote, if it is at the key
abbrev pub says_of : {K : Type 0} → (K → K → Ordering) → K → Option (K × Flag) → Option Flag
says_of R key None = None
says_of R key (Some v) = if eq_by_cmp R key v.0 then Some v.1 else None

-- the vote of an operation as a list of entries
abbrev pub votes_in : {K : Type 0} → Dot → Option (K × Flag) → List (KeyedWrite K × Flag)
votes_in d None = []
votes_in d (Some v) = (keyed_write v.0 d, v.1) ∷ []

module _ {K : Type 0} (R : K → K → Ordering) {A : Type 0} (vote : A → Option (K × Flag)) where
  -- the flag of the operation, if it writes w
  abbrev pub vote_in : KeyedWrite K → Dot × A → Option Flag
  vote_in w o = if is_under w.dot o then says_of R w.key (vote o.1) else None

  -- the flag of the first operation that writes w; a dot has one operation, so all that write w have the same flag
  abbrev pub said : KeyedWrite K → List (Dot × A) → Option Flag
  said w [] = None
  said w (o ∷ os) = or_else (vote_in w o) (said w os)

-- The value is the meaning of the operations: a vote stands, with its value, if one of them writes it and none replaces
-- its dot.
pub record IsVoteMeaning {K : Type 0} (R : K → K → Ordering) {A : Type 0} (over : A → List Dot)
    (vote : A → Option (K × Flag)) (os : List (Dot × A)) (v : VotesValue R) : Type 0 where
  pub known : AreNamedIn over os v.known
  pub standing : (w : KeyedWrite K) → map.get v.standing w ≡ (if is_replaced over w.dot os then None else said R vote w os)

-- the delta of one operation
abbrev pub vote_delta : {K : Type 0} (R : K → K → Ordering) {A : Type 0} → (A → List Dot) → (A → Option (K × Flag))
    → Dot → A → VotesValue R
vote_delta R over vote d a = record { known = named_by over d a; standing = map.from_entries (votes_in d (vote a)) }
