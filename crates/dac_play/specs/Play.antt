-- A script in the world, and its output.
use Rattle.std.specs.Prelude.{◌≡◌, ℕ, ◌-◌, ◌<◌, List, [], ◌∷◌, ◌++◌, length, fold, Option, None, Some, is_some, IsTrue, slice_get}
use Rattle.std.specs.Option.{option_and_then, option_map_or}
use Rattle.std.specs.Str.{bytes_eq}
use Rattle.dac_base.specs.declared.NodeId.{NodeId}
use Rattle.dac_origins.specs.declared.dot.Origin.{Origin}
use Rattle.dac_config.specs.Table.{Table, node_name}
use Rattle.dac_meaning.specs.StateValue.{StateValue}
use Rattle.dac_state.specs.StateSpelling.{spelling_of}
use Rattle.dac_core.specs.NodeValue.{origin_of, state_of}
use Rattle.dac_core.specs.WorldValue.{WorldValue}
use Rattle.dac_core.specs.ModelWorld.{ModelWorld, Shows, happens, counted}
use Rattle.dac_status.specs.Summaries.{summary_of}
use Rattle.dac_wire.specs.Decoding.{packet_at}
use Rattle.dac_status.specs.Texts.{header_text, page_text}
use Rattle.dac_script.specs.declared.line.ScriptLine.{ScriptLine}
use Rattle.dac_script.specs.declared.line.ScriptLine.TheVariants as says
use Rattle.dac_play.specs.declared.answers.Counts.{Counts}
use Rattle.dac_play.specs.Texts.{shared_text, hex_text, same_text}
use Rattle.dac_play.specs.Answers.{answer_text}
use Rattle.dac_play.specs.Wires.{message_text, fed_text}
use Rattle.dac_play.specs.Pairs.{TellsEachOther}
use Rattle.dac_play.specs.Sharing.{origin_in, state_in, after_telling, shared, Leads}

-- the state of a running node of the program's world
abbrev pub state_at : WorldValue → NodeId → Option StateValue
state_at v node = option_and_then state_of (slice_get v.nodes node.0)

-- the present incarnation of a running node of the program's world
abbrev pub origin_at : WorldValue → NodeId → Option Origin
origin_at v node = option_and_then origin_of (slice_get v.nodes node.0)

-- a node below count has a state
abbrev pub HasState : (NodeId → Option StateValue) → ℕ → NodeId → Type 0
HasState state count node = (node.0 < count) × IsTrue (is_some (state node))

-- The program's world goes from old to new by shipping from every running node to every other one, as every model world
-- that shows as old does.
pub record IsShared (table : Table) (old new : WorldValue) : Type 0 where
  pub pairs : List (NodeId × NodeId)
  pub each_other : TellsEachOther (HasState (state_at old) (length old.nodes)) pairs
  pub leads : Leads table old (λ w. fold (after_telling table) w pairs) new

-- a node's incarnation and page; a node that is off has no page
abbrev pub shown_text : Table → NodeId → Option Origin → Option StateValue → List ℕ
shown_text table node origin state =
    header_text (node_name table node) origin ++ option_map_or (λ s. page_text table (summary_of table s)) state []

-- the bytes of a node's state, or that it's off
abbrev pub bytes_text : List ℕ → Option StateValue → List ℕ
bytes_text node None = header_text node None
bytes_text node (Some state) = hex_text (spelling_of state)

-- whether two nodes' states have the same bytes, or the first of the nodes that is off
abbrev pub compare_text : List ℕ → List ℕ → Option StateValue → Option StateValue → List ℕ
compare_text first second None other = header_text first None
compare_text first second (Some one) None = header_text second None
compare_text first second (Some one) (Some other) = same_text (bytes_eq (spelling_of one) (spelling_of other))

-- the operations issued and messages shipped so far
abbrev pub counts_in : ModelWorld → Counts
counts_in w = record { operations = length w.operations; messages = length w.messages }

-- the world after a line
abbrev pub after_line : Table → ModelWorld → ScriptLine → ModelWorld
after_line table w (says.Event event) = (happens table w event).world
after_line table w says.Share = shared table w
after_line table w (says.Page node) = w
after_line table w (says.State node) = w
after_line table w (says.Same first second) = w
after_line table w (says.Bytes message) = w
after_line table w (says.Feed bytes) = w

-- the output of a line
abbrev pub line_text : Table → ModelWorld → ScriptLine → List ℕ
line_text table w (says.Event event) =
    answer_text table event (happens table w event).answer (counts_in (happens table w event).world)
line_text table w says.Share = shared_text (length (shared table w).messages - length w.messages)
line_text table w (says.Page node) = shown_text table node (origin_in w node) (state_in w node)
line_text table w (says.State node) = bytes_text (node_name table node) (state_in w node)
line_text table w (says.Same first second) =
    compare_text (node_name table first) (node_name table second) (state_in w first) (state_in w second)
line_text table w (says.Bytes message) = message_text table message (counted w.messages message)
line_text table w (says.Feed bytes) = fed_text (packet_at table bytes)

-- the output of a script
abbrev pub script_text : Table → ModelWorld → List ScriptLine → List ℕ
script_text table w [] = []
script_text table w (line ∷ lines) = line_text table w line ++ script_text table (after_line table w line) lines

-- A line prints this text and leads from old to new, as in every model world that shows as old.
pub record PlaysLine (table : Table) (old : WorldValue) (line : ScriptLine) (text : List ℕ)
    (new : WorldValue) : Type 0 where
  pub each : (w : ModelWorld) → Shows table w old
      → (text ≡ line_text table w line) × Shows table (after_line table w line) new
