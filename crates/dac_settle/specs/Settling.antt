-- Settling: if all running controllers know the same and keep ticking, each application soon has its place. In a round
-- each running controller ticks, and they share their states. (Rounds are a notion of this project; nothing implies
-- that they happen.)
use Rattle.std.specs.Prelude.{◌≡◌, ◌⊎◌, ℕ, ◌+◌, ◌<◌, ◌≤◌, cond, nat_eq, List, [], ◌∷◌, ◌++◌, Option, Some, IsSome}
use Rattle.std.proofs.Common.{zero, suc}
use Rattle.dac_base.specs.declared.NodeId.{NodeId}
use Rattle.dac_base.specs.declared.AppId.{AppId}
use Rattle.dac_origins.specs.declared.dot.Origin.{Origin}
use Rattle.dac_chains.specs.declared.claims.Claim.{Claim}
use Rattle.dac_chains.specs.Lives.{IsLive}
use Rattle.dac_operations.specs.Operations.{Operation}
use Rattle.dac_meaning.specs.StateValue.{StateValue}
use Rattle.dac_meaning.specs.Meaning.{AreOperationsOf, DotsDetermine, meaning_of}
use Rattle.dac_config.specs.Table.{Table, app_count, timeout_of}
use Rattle.dac_placement.specs.declared.verdicts.Verdict.{Verdict}
use Rattle.dac_placement.specs.declared.verdicts.Verdict.TheVariants.{Start, Failover, Halted, Move, Takeover, Kept, Nobody}
use Rattle.dac_decide.specs.FailoverWait.{Note, IsLost, IsLostByNewest, IsNotedSince}
use Rattle.dac_ticks.specs.Ticks.{Sweep}
use Rattle.dac_ticks.specs.Again.{noting, tick_of}
use Rattle.dac_settle.specs.Rounds.{InCopies}
use Rattle.dac_settle.specs.Rules.{judged}

-- ---- the part of the world that settling depends on

-- a running node: its incarnation, its set of operations, and its notes, newest first
pub record Member : Type 0 where
  pub inc : ℕ
  pub held : List Operation
  pub notes : List Note

-- the running nodes, and the copies shipped in this round
pub record Members : Type 0 where
  pub node : NodeId → Option Member
  pub copies : List (List Operation)

abbrev pub with_member : (NodeId → Option Member) → NodeId → Member → NodeId → Option Member
with_member node n d m = cond (nat_eq m.0 n.0) (Some d) (node m)

-- the incarnation that runs at node n
abbrev pub own_of : NodeId → Member → Origin
own_of n d = record { node = n; inc = d.inc }

-- the effect of a tick of the node at this moment
abbrev pub sweep_at : Table → NodeId → Member → ℕ → Sweep
sweep_at t n d now = tick_of t (own_of n d) d.notes now (meaning_of d.held)

-- the node with more operations in its set
abbrev pub holding : Member → List Operation → Member
holding d more = record { inc = d.inc; held = d.held ++ more; notes = d.notes }

-- the node after a tick: with more operations, and with one more note
abbrev pub ticked : Member → ℕ → List Operation → Member
ticked d now more = record { inc = d.inc; held = d.held ++ more; notes = noting (meaning_of d.held) now d.notes }

-- each claim noted as lost has waited its application's timeout at this moment
abbrev pub IsLate : Table → List Note → ℕ → Type 0
IsLate t notes now =
    (app : AppId) (claim : Claim) (since : ℕ) → IsNotedSince notes app claim since → since + timeout_of t app ≤ now

-- The events accepted in a round: a node's tick at a moment, a ship, or a delivery of a copy shipped in the round
pub data MemberEvent : Type 0 where
  Tick : NodeId → ℕ → MemberEvent
  Ship : NodeId → MemberEvent
  Deliver : NodeId → MemberEvent

-- A tick in a round: the dots of the node's operations are distinct, all losses that it has noted have waited, and it
-- passes no application.
pub record IsTick (t : Table) (n : NodeId) (d : Member) (now : ℕ) : Type 0 where
  pub agree : DotsDetermine d.held
  pub late : IsLate t d.notes now
  pub passed : (sweep_at t n d now).passed ≡ []

-- one event
abbrev pub Happens : Table → Members → MemberEvent → Members → Type 0
Happens t w (Tick n now) next = (d : Member) × (w.node n ≡ Some d) × IsTick t n d now
    × (next ≡ record { node = with_member w.node n (ticked d now (sweep_at t n d now).ops); copies = w.copies })
Happens t w (Ship n) next =
    (d : Member) × (w.node n ≡ Some d) × (next ≡ record { node = w.node; copies = w.copies ++ d.held ∷ [] })
Happens t w (Deliver n) next = (d : Member) × (y : List Operation) × (w.node n ≡ Some d) × InCopies y w.copies
    × (next ≡ record { node = with_member w.node n (holding d y); copies = w.copies })

-- one event after another
abbrev pub Run : Table → Members → List MemberEvent → Members → Type 0
Run t w [] final = final ≡ w
Run t w (e ∷ es) final = (next : Members) × Happens t w e next × Run t next es final

-- node n ticks in these events
abbrev pub Ticks : NodeId → List MemberEvent → Type 0
Ticks n [] = ⊥
Ticks n (e ∷ es) = ((now : ℕ) × (Tick n now ≡ e)) ⊎ Ticks n es

-- ---- ready worlds and rounds

-- all running nodes hold the same set
abbrev pub AllSame : (NodeId → Option Member) → Type 0
AllSame node = (m n : NodeId) (d e : Member) → node m ≡ Some d → node n ≡ Some e → AreOperationsOf d.held e.held

-- All running nodes hold the same set. The incarnations live in that set are those that run. Each running node has
-- noted each lost claim.
pub record IsReady (node : NodeId → Option Member) : Type 0 where
  pub same : AllSame node
  pub runs : (m : NodeId) (d : Member) → node m ≡ Some d → (n : NodeId) (inc : ℕ)
      → IsLive (meaning_of d.held).lives n inc → (e : Member) × (node n ≡ Some e) × (e.inc ≡ inc)
  pub live : (m n : NodeId) (d e : Member) → node m ≡ Some d → node n ≡ Some e
      → IsLive (meaning_of d.held).lives n e.inc
  pub noted : (m : NodeId) (d : Member) → node m ≡ Some d → (app : AppId) (claim : Claim)
      → IsLost (meaning_of d.held) app claim → IsLostByNewest d.notes app claim

-- Each running node ticks, each delivered copy was shipped in the round, and at the end all running nodes hold the same
-- set.
pub record IsRound (t : Table) (node later : NodeId → Option Member) : Type 0 where
  pub events : List MemberEvent
  pub copies : List (List Operation)
  pub run : Run t (record { node = node; copies = [] }) events (record { node = later; copies = copies })
  pub ticks : (n : NodeId) → IsSome (node n) → Ticks n events
  pub same : AllSame later

-- this many rounds, one after another
abbrev pub Rounds : Table → ℕ → (NodeId → Option Member) → (NodeId → Option Member) → Type 0
Rounds t zero node final = final ≡ node
Rounds t (suc k) node final = (later : NodeId → Option Member) × IsRound t node later × Rounds t k later final

-- no claim should be made
abbrev pub IsSettled : Verdict → Type 0
IsSettled (Start n) = ⊥
IsSettled (Failover n) = ⊥
IsSettled (Halted n) = Unit {0}
IsSettled (Move n) = ⊥
IsSettled (Takeover n) = ⊥
IsSettled (Kept n) = Unit {0}
IsSettled Nobody = Unit {0}

-- After as many rounds as there are applications, begun in a ready world, the rule's verdict on each application at
-- each running node is that it is kept or halted, or that no node can run it.
abbrev pub RoundsSettleBy : (Table → StateValue → AppId → Verdict) → Type 0
RoundsSettleBy rule =
    (t : Table) (node final : NodeId → Option Member) → IsReady node → Rounds t (app_count t) node final
    → (m : NodeId) (d : Member) → final m ≡ Some d → (app : AppId) → app.0 < app_count t → IsSettled (rule t (meaning_of d.held) app)

abbrev pub RoundsSettle : Type 0
RoundsSettle = RoundsSettleBy judged
