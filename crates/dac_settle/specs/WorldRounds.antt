-- Ready worlds and rounds, of the model world together with the world of sets.
use Rattle.std.specs.Prelude.{◌≡◌, ◌⊎◌, ℕ, ◌<◌, List, [], ◌∷◌, ◌++◌, length, Option, Some, None, IsSome, Result, Ok, Err}
use Rattle.std.proofs.Common.{zero, suc}
use Rattle.dac_base.specs.declared.NodeId.{NodeId}
use Rattle.dac_base.specs.declared.AppId.{AppId}
use Rattle.dac_meaning.specs.StateValue.{StateValue}
use Rattle.dac_config.specs.Table.{Table, app_count}
use Rattle.dac_placement.specs.Placement.{verdict_of}
use Rattle.dac_events.specs.declared.WorldEvent.{WorldEvent}
use Rattle.dac_events.specs.declared.What.{What}
use Rattle.dac_events.specs.declared.What.TheVariants.{Tick as Ticks}
use Rattle.dac_messages.specs.declared.reply.Reply.{Reply}
use Rattle.dac_messages.specs.declared.reply.Reply.TheVariants.{Ticked, Shipped, Heard}
use Rattle.dac_model_world.specs.ModelNode.{ModelRunning}
use Rattle.dac_events.specs.declared.world_fault.WorldFault.{WorldFault}
use Rattle.dac_model_world.specs.WorldValue.{WorldValue}
use Rattle.dac_model_world.specs.ModelWorld.{ModelWorld, AnsweredAs, start, went, world_after}
use Rattle.dac_model_world.specs.SetWorld.{NodeSet, SetWorld, no_sets, set_run}
use Rattle.dac_model_world.specs.Shares.{IsSince}
use Rattle.dac_model_world.specs.Convergence.{RunsWith}
use Rattle.dac_settle.specs.Settling.{Member, IsLate, AllSame, IsReady, IsSettled}

-- ---- members: the part of a world that settling depends on

-- a running node with its set: its incarnation, operations and notes
abbrev pub member_by : Option ModelRunning → Option NodeSet → Option Member
member_by None held = None
member_by (Some r) None = None
member_by (Some r) (Some set) = Some (record { inc = r.origin.inc; held = set.operations; notes = r.notes })

abbrev pub members_of : ModelWorld → SetWorld → NodeId → Option Member
members_of w s n = member_by (w.node n).running (s.node n)

-- All running nodes hold the same set. The incarnations live in that set are those that run. Each running node has
-- noted each lost claim.
abbrev pub IsReadyWorld : ModelWorld → SetWorld → Type 0
IsReadyWorld w s = IsReady (members_of w s)

-- ---- rounds

-- if a running node ticks, each claim that it has noted as lost has waited its application's timeout
abbrev pub IsLateBy : Table → Option ModelRunning → What → Type 0
IsLateBy t (Some r) (Ticks now) = IsLate t r.notes now
IsLateBy t (Some r) _ = Unit {0}
IsLateBy t None what = Unit {0}

-- The events accepted in a round: ticks, ships, and deliveries of messages shipped in this round. A tick comes after
-- the waits of all noted losses, and passes no application. Refused events are permitted, because they change nothing.
-- Boots, crashes, commands and handed operations aren't accepted.
abbrev pub InRound : Table → ℕ → ModelWorld → NodeId → What → Result Reply WorldFault → Type 0
InRound t before w n what (Err why) = Unit {0}
InRound t before w n what (Ok (Ticked ops passed)) = (passed ≡ []) × IsLateBy t (w.node n).running what
InRound t before w n what (Ok (Shipped m)) = Unit {0}
InRound t before w n what (Ok (Heard fresh)) = IsSince before what
InRound t before w n what (Ok _) = ⊥

-- all these events, with their results, are in a round that begins at w
abbrev pub AreInRound : Table → ℕ → ModelWorld → List WorldEvent → List (Result Reply WorldFault) → Type 0
AreInRound t before w [] answers = Unit {0}
AreInRound t before w (e ∷ es) [] = Unit {0}
AreInRound t before w (e ∷ es) (a ∷ answers) =
    InRound t before w e.node e.what a × AreInRound t before (went t w e a) es answers

abbrev pub IsTicked : Result Reply WorldFault → Type 0
IsTicked (Ok (Ticked ops passed)) = Unit {0}
IsTicked _ = ⊥

-- one of these events is an accepted tick of node n
abbrev pub AnswersTick : NodeId → List WorldEvent → List (Result Reply WorldFault) → Type 0
AnswersTick n [] answers = ⊥
AnswersTick n (e ∷ es) [] = ⊥
AnswersTick n (e ∷ es) (a ∷ answers) = ((e.node ≡ n) × IsTicked a) ⊎ AnswersTick n es answers

-- These events with their results are a round: each running node ticks, and at the end all running nodes hold the same
-- set.
pub record IsWorldRound (t : Table) (w : ModelWorld) (s : SetWorld) (events : List WorldEvent)
    (answers : List (Result Reply WorldFault)) : Type 0 where
  pub answered : AnsweredAs t w events answers
  pub fits : AreInRound t (length s.copies) w events answers
  pub ticks : (n : NodeId) → IsSome (w.node n).running → AnswersTick n events answers
  pub same : AllSame (members_of (world_after t w events answers) (set_run s events answers))

-- the events are this many rounds, one after another
abbrev pub AreRounds : Table → ℕ → ModelWorld → SetWorld → List WorldEvent → List (Result Reply WorldFault) → Type 0
AreRounds t zero w s events answers = (events ≡ []) × (answers ≡ [])
AreRounds t (suc k) w s events answers =
    (first : List WorldEvent) × (later : List WorldEvent) × (replies : List (Result Reply WorldFault)) × (more : List (Result Reply WorldFault))
    × (events ≡ first ++ later) × (answers ≡ replies ++ more)
    × IsWorldRound t w s first replies × AreRounds t k (world_after t w first replies) (set_run s first replies) later more

-- The events with their results end in as many rounds as there are applications, begun in a ready world.
pub record EndsInRounds (t : Table) (events : List WorldEvent) (answers : List (Result Reply WorldFault)) : Type 0 where
  pub before : List WorldEvent
  pub rounds : List WorldEvent
  pub replies : List (Result Reply WorldFault)
  pub more : List (Result Reply WorldFault)
  pub events_are : events ≡ before ++ rounds
  pub answers_are : answers ≡ replies ++ more
  pub answered : AnsweredAs t (start t) before replies
  pub ready : IsReadyWorld (world_after t (start t) before replies) (set_run no_sets before replies)
  pub last : AreRounds t (app_count t) (world_after t (start t) before replies)
      (set_run no_sets before replies) rounds more

-- If the events end in rounds as by `EndsInRounds`, each application is settled at each running node.
pub record Settles (t : Table) (events : List WorldEvent) (answers : List (Result Reply WorldFault))
    (v : WorldValue) : Type 0 where
  pub each : EndsInRounds t events answers
      → (n : ℕ) (state : StateValue) → RunsWith v n state
      → (app : AppId) → app.0 < app_count t → IsSettled (verdict_of t state app)
