-- The model's run of a list of events, without failed allocations, and its properties.
use Rattle.std.specs.Prelude.{◌≡◌, List, [], ◌∷◌, map, Result}
use Rattle.std.specs.List.{AllByRecursion, range_with_len}
use Rattle.dac_config.specs.Table.{Table}
use Rattle.dac_events.specs.declared.WorldEvent.{WorldEvent}
use Rattle.dac_messages.specs.declared.reply.Reply.{Reply}
use Rattle.dac_events.specs.declared.world_fault.WorldFault.{WorldFault}
use Rattle.dac_model_node.specs.ModelNode.{shown}
use Rattle.dac_model_world.specs.WorldValue.{WorldValue}
use Rattle.dac_model_world.specs.ModelWorld.{ModelWorld, happens, start, numbered, out_of_memory, Shows, Run}

-- the results of these events, from w
abbrev pub answers_of : Table → ModelWorld → List WorldEvent → List (Result Reply WorldFault)
answers_of t w [] = []
answers_of t w (e ∷ es) = (happens t w e).answer ∷ answers_of t (happens t w e).world es

-- the world after these events, from w
abbrev pub run_from : Table → ModelWorld → List WorldEvent → ModelWorld
run_from t w [] = w
run_from t w (e ∷ es) = run_from t (happens t w e).world es

-- the world after these events, from the start
abbrev pub model_run : Table → List WorldEvent → ModelWorld
model_run t es = run_from t (start t) es

-- the program's world as which the model world shows
abbrev pub shown_world : Table → ModelWorld → WorldValue
shown_world t w = record {
  nodes = map (λ n. shown t (w.node (numbered n))) (range_with_len 0 w.count);
  operations = w.operations;
  messages = w.messages;
}

-- no allocation failed
abbrev pub IsEnough : List (Result Reply WorldFault) → Type 0
IsEnough answers = AllByRecursion (λ (answer : Result Reply WorldFault). ¬ (answer ≡ out_of_memory)) answers

-- P holds of each list of events: of the configuration, the events, their results from the start, and the program's
-- world after them
abbrev pub OfEachList : (Table → List WorldEvent → List (Result Reply WorldFault) → WorldValue → Type 0) → Type 0
OfEachList P = (t : Table) (events : List WorldEvent)
    → P t events (answers_of t (start t) events) (shown_world t (model_run t events))

-- the model's run of each list is a run
abbrev pub RunsEachList : Type 0
RunsEachList =
    (t : Table) (events : List WorldEvent) → Run t (start t) events (answers_of t (start t) events) (model_run t events)

-- each model world shows as some world of the program
abbrev pub IsShownWorld : Type 0
IsShownWorld = (t : Table) (w : ModelWorld) → Shows t w (shown_world t w)
