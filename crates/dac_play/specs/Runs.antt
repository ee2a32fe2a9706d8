-- A script as a run: the events of its lines.
use Rattle.std.specs.Prelude.{◌≡◌, ℕ, take, List, [], ◌∷◌, ◌++◌, Result, Err, length, if◌then◌else◌}
use Rattle.std.specs.List.{AllByRecursion}
use Rattle.std.specs.Result.{is_ok}
use Rattle.dac_base.specs.declared.NodeId.{NodeId}
use Rattle.dac_config.specs.Table.{Table}
use Rattle.dac_events.specs.declared.WorldEvent.{WorldEvent}
use Rattle.dac_events.specs.declared.refusal.Refusal.TheVariants.{DotsUsedUp}
use Rattle.dac_events.specs.declared.world_fault.WorldFault.TheVariants.{Refused}
use Rattle.dac_messages.specs.declared.reply.Reply.{Reply}
use Rattle.dac_core.specs.WorldFault.{WorldFault}
use Rattle.dac_core.specs.WorldValue.{WorldValue}
use Rattle.dac_core.specs.ModelWorld.{ModelWorld, WorldStepped, Shows, RanAs, start, happens}
use Rattle.dac_core.specs.Converges.{Converges}
use Rattle.dac_core.specs.EveryList.{answers_of, IsEnough}
use Rattle.dac_model_world.specs.SetWorld.{SetWorld, set_run, no_sets}
use Rattle.dac_model_world.specs.Shares.{KnowPresent, HaveUnion}
use Rattle.dac_script.specs.declared.line.ScriptLine.{ScriptLine}
use Rattle.dac_script.specs.declared.line.ScriptLine.TheVariants as says
use Rattle.dac_play.specs.Pairs.{pairs, TellsEachOther}
use Rattle.dac_play.specs.Sharing.{state_in, having_state, shipping, delivery, after_telling}
use Rattle.dac_play.specs.Play.{HasState, after_line}

-- the delivery after a ship that sent something
abbrev pub deliveries : NodeId → WorldStepped → List WorldEvent
deliveries to shipped = if is_ok shipped.answer then delivery (length shipped.world.messages) to ∷ [] else []

-- the events of these pairs: each ship, and its delivery if something was sent
abbrev pub telling : Table → ModelWorld → List (NodeId × NodeId) → List WorldEvent
telling t w [] = []
telling t w (pair ∷ all) =
    shipping pair ∷ (deliveries pair.1 (happens t w (shipping pair)) ++ telling t (after_telling t w pair) all)

-- the pairs of an anti-entropy round
abbrev pub pairs_in : ModelWorld → List (NodeId × NodeId)
pairs_in w = pairs (having_state (state_in w) w.count)

-- the events of a line
abbrev pub line_events : Table → ModelWorld → ScriptLine → List WorldEvent
line_events t w (says.Event event) = event ∷ []
line_events t w says.Share = telling t w (pairs_in w)
line_events t w (says.Page node) = []
line_events t w (says.State node) = []
line_events t w (says.Same first second) = []
line_events t w (says.Bytes message) = []
line_events t w (says.Feed bytes) = []

-- the events of several lines
abbrev pub events_from : Table → ModelWorld → List ScriptLine → List WorldEvent
events_from t w [] = []
events_from t w (line ∷ lines) = line_events t w line ++ events_from t (after_line t w line) lines

-- the world after several lines
abbrev pub world_from : Table → ModelWorld → List ScriptLine → ModelWorld
world_from t w [] = w
world_from t w (line ∷ lines) = world_from t (after_line t w line) lines

-- the events of a script
abbrev pub events_in : Table → List ScriptLine → List WorldEvent
events_in t lines = events_from t (start t) lines

-- the results of a script's events
abbrev pub answers_in : Table → List ScriptLine → List (Result Reply WorldFault)
answers_in t lines = answers_of t (start t) (events_in t lines)

-- The program's world after these lines is that of the run of their events from the start, it converges, and no event
-- fails with `NoMemory`.
pub record IsRunOf (t : Table) (lines : List ScriptLine) (v : WorldValue) : Type 0 where
  pub ran : RanAs t (events_in t lines) (answers_in t lines) v
  pub converges : Converges t (events_in t lines) (answers_in t lines) v
  pub enough : IsEnough (answers_in t lines)

-- no event is refused as `DotsUsedUp`
abbrev pub HaveNumbers : List (Result Reply WorldFault) → Type 0
HaveNumbers answers =
    AllByRecursion (λ (answer : Result Reply WorldFault). ¬ (answer ≡ Err (Refused DotsUsedUp))) answers

-- A share from this world leaves every running node the union of their sets. This requires that each knows the present
-- incarnation of every other one or nothing of its life, and that no dots are used up.
abbrev pub ShareUnites : Table → ModelWorld → SetWorld → Type 0
ShareUnites t w sets =
    let share = telling t w (pairs_in w) in
    let replies = answers_of t w share in
    KnowPresent sets → HaveNumbers replies → HaveUnion sets (set_run sets share replies)

-- After any number of lines, the world is that of a run from the start, by the events of these lines. A share there
-- ships from every running node to every other one, and leaves all of them the union.
pub record PlaysRuns (t : Table) (script : List ScriptLine) : Type 0 where
  pub runs : (n : ℕ) (v : WorldValue) → Shows t (world_from t (start t) (take n script)) v → IsRunOf t (take n script) v
  pub shares : (n : ℕ) → let w = world_from t (start t) (take n script) in TellsEachOther (HasState (state_in w) w.count) (pairs_in w)
  pub unites : (n : ℕ) → let lines = take n script in ShareUnites t (world_from t (start t) lines) (set_run no_sets (events_in t lines) (answers_in t lines))
