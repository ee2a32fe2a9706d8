-- Rounds over the sets of operations that nodes hold, for any placement with the properties of `IsPlacement`. In a
-- round each running node ticks, and each delivered copy was shipped in that round.
use Rattle.std.specs.Prelude.{◌≡◌, ◌⊎◌, ℕ, cond, nat_eq, List, [], ◌∷◌, ◌++◌, Option, Some, None, IsSome}
use Rattle.std.proofs.Common.{zero, suc}
use Rattle.dac_base.specs.declared.NodeId.{NodeId}
use Rattle.dac_base.specs.declared.AppId.{AppId}
use Rattle.dac_operations.specs.Operations.{Operation}
use Rattle.dac_meaning.specs.Meaning.{IsOperationOf, AreOperationsOf}

-- ---- placement

-- the set of each running node
abbrev pub Held : Type 0
Held = NodeId → Option (List Operation)

-- the application is one of these
abbrev pub IsApp : AppId → List AppId → Type 0
IsApp app [] = ⊥
IsApp app (a ∷ apps) = (app ≡ a) ⊎ IsApp app apps

-- a placement, as a function of sets of operations
pub record Placement : Type 1 where
  -- the applications, in the order in which ticks take them
  pub apps : List AppId
  -- the node that should claim an application, or none if it is settled
  pub candidate : List Operation → AppId → Option NodeId
  -- a node's claim of an application
  pub claim : NodeId → List Operation → AppId → Operation
  -- the node is live by the set
  pub IsLive : List Operation → NodeId → Type 0
  -- The operation is a good claim of the application: it is greater than each claim of the set, and its node can run
  -- the application
  pub IsWell : List Operation → AppId → Operation → Type 0

-- the operation is a good claim of one of the applications at s
abbrev pub IsWellMade : Placement → List Operation → Operation → Type 0
IsWellMade p s o = (app : AppId) × IsApp app p.apps × p.IsWell s app o

-- x consists of s and of claims that are good at s
pub record IsGrown (p : Placement) (s x : List Operation) : Type 0 where
  pub keeps : AreOperationsOf s x
  pub new : (o : Operation) → IsOperationOf o x → IsOperationOf o s ⊎ IsWellMade p s o

-- the properties of placement that rounds rely on
pub record IsPlacement (p : Placement) : Type 0 where
  -- the same set gives the same candidates
  pub alike : (x y : List Operation) (app : AppId) → AreOperationsOf x y → AreOperationsOf y x
      → p.candidate x app ≡ p.candidate y app
  -- a candidate is live
  pub live : (x : List Operation) (app : AppId) (n : NodeId) → p.candidate x app ≡ Some n → p.IsLive x n
  -- claims make no node live
  pub lives : (s x : List Operation) (n : NodeId) → IsGrown p s x → p.IsLive x n → p.IsLive s n
  -- a settled application stays settled
  pub stays : (s x : List Operation) (app : AppId) → IsGrown p s x → p.candidate s app ≡ None → p.candidate x app ≡ None
  -- only an unsettled application has a good claim
  pub unsettled : (s : List Operation) (app : AppId) (o : Operation) → p.IsWell s app o → IsSome (p.candidate s app)
  -- a good claim settles its application
  pub settles : (s x : List Operation) (app : AppId) (o : Operation) → IsGrown p s x → IsOperationOf o x
      → p.IsWell s app o
      → p.candidate x app ≡ None
  -- a candidate's claim is good
  pub well : (s x : List Operation) (app : AppId) (n : NodeId) → IsGrown p s x → p.candidate x app ≡ Some n
      → p.IsWell s app (p.claim n x app)

-- ---- rounds

-- a tick of node n takes these applications in order, and claims each whose candidate it is
abbrev pub Claims : (p : Placement) → NodeId → List AppId → List Operation → List Operation → Type 0
Claims p n [] x made = made ≡ []
Claims p n (app ∷ apps) x made =
    ((rest : List Operation) × (p.candidate x app ≡ Some n) × (made ≡ p.claim n x app ∷ rest) × Claims p n apps (x ++ p.claim n x app ∷ []) rest)
    ⊎ ((¬ (p.candidate x app ≡ Some n)) × Claims p n apps x made)

-- the events of a round at running nodes
pub data SetsEvent : Type 0 where
  Tick : NodeId → List Operation → SetsEvent
  Ship : NodeId → SetsEvent
  Deliver : NodeId → SetsEvent

-- the set of each running node, and the copies shipped in this round
pub record Sets : Type 0 where
  pub held : Held
  pub copies : List (List Operation)

-- the set is one of the copies
abbrev pub InCopies : List Operation → List (List Operation) → Type 0
InCopies x [] = ⊥
InCopies x (y ∷ ys) = (x ≡ y) ⊎ InCopies x ys

-- replaces the set of node n
abbrev pub with_held : Held → NodeId → List Operation → Held
with_held held n x m = cond (nat_eq m.0 n.0) (Some x) (held m)

-- one event
abbrev pub Happens : Placement → Sets → SetsEvent → Sets → Type 0
Happens p w (Tick n made) next = (x : List Operation) × (w.held n ≡ Some x) × Claims p n p.apps x made
    × (next ≡ record { held = with_held w.held n (x ++ made); copies = w.copies })
Happens p w (Ship n) next =
    (x : List Operation) × (w.held n ≡ Some x) × (next ≡ record { held = w.held; copies = w.copies ++ x ∷ [] })
Happens p w (Deliver n) next = (x : List Operation) × (y : List Operation) × (w.held n ≡ Some x) × InCopies y w.copies
    × (next ≡ record { held = with_held w.held n (x ++ y); copies = w.copies })

-- one event after another
abbrev pub Run : Placement → Sets → List SetsEvent → Sets → Type 0
Run p w [] final = final ≡ w
Run p w (e ∷ es) final = (next : Sets) × Happens p w e next × Run p next es final

-- the event is a tick of node n
abbrev pub IsTickOf : NodeId → SetsEvent → Type 0
IsTickOf n e = (made : List Operation) × (Tick n made ≡ e)

-- node n ticks in these events
abbrev pub Ticks : NodeId → List SetsEvent → Type 0
Ticks n [] = ⊥
Ticks n (e ∷ es) = IsTickOf n e ⊎ Ticks n es

-- all running nodes hold the same set
abbrev pub AllSame : Held → Type 0
AllSame held = (m n : NodeId) (x y : List Operation) → held m ≡ Some x → held n ≡ Some y → AreOperationsOf x y

-- all running nodes hold the same set, and the nodes live in it run
pub record IsReady (p : Placement) (held : Held) : Type 0 where
  pub same : AllSame held
  pub runs : (m n : NodeId) (x : List Operation) → held m ≡ Some x → p.IsLive x n → IsSome (held n)

-- a round leads from one family of sets to another: each running node ticks, and at the end all hold the same set
pub record IsRound (p : Placement) (held later : Held) : Type 0 where
  pub events : List SetsEvent
  pub copies : List (List Operation)
  pub run : Run p (record { held = held; copies = [] }) events (record { held = later; copies = copies })
  pub ticks : (n : NodeId) → IsSome (held n) → Ticks n events
  pub same : AllSame later

-- this many rounds, one after another
abbrev pub Rounds : Placement → ℕ → Held → Held → Type 0
Rounds p zero held final = final ≡ held
Rounds p (suc k) held final = (later : Held) × IsRound p held later × Rounds p k later final
