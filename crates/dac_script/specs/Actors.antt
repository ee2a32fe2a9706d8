-- The nodes that a line names as actors.
use Rattle.std.specs.Prelude.{ℕ, ◌<◌}
use Rattle.dac_script.specs.declared.line.ScriptLine.{ScriptLine}
use Rattle.dac_script.specs.declared.line.ScriptLine.TheVariants as says

-- the nodes at which the line acts are below this number, which means that they are configured
abbrev pub HasActors : ℕ → ScriptLine → Type 0
HasActors nodes (says.Event event) = event.node.0 < nodes
HasActors nodes says.Share = Unit {0}
HasActors nodes (says.Page node) = node.0 < nodes
HasActors nodes (says.State node) = node.0 < nodes
HasActors nodes (says.Same first second) = (first.0 < nodes) × (second.0 < nodes)
HasActors nodes (says.Bytes message) = Unit {0}
HasActors nodes (says.Feed bytes) = Unit {0}
