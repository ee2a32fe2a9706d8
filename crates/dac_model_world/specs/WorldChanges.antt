-- The effect of an accepted event on the program's world.
use Rattle.std.specs.Prelude.{◌≡◌, ℕ, cond, nat_eq, List, ◌++◌, length}
use Rattle.std.specs.List.{slice_get}
use Rattle.std.specs.Option.{option_map}
use Rattle.dac_base.specs.declared.NodeId.{NodeId}
use Rattle.dac_messages.specs.declared.reply.Reply.{Reply}
use Rattle.dac_model_node.specs.NodeValue.{NodeValue}
use Rattle.dac_model_world.specs.WorldValue.{WorldValue}
use Rattle.dac_model_world.specs.ModelWorld.{issued_by, shipped_by}

-- one of these nodes changes
pub record NodeChanges (before : List NodeValue) (node : NodeId) (become : NodeValue → NodeValue)
    (after : List NodeValue) : Type 0 where
  pub count : length after ≡ length before
  pub each : (n : ℕ)
      → slice_get after n ≡ cond (nat_eq n node.0) (option_map become (slice_get before n)) (slice_get before n)

-- the step from v to u: one node changes, and the operations and messages of its reply are appended
pub record Goes (v : WorldValue) (node : NodeId) (become : NodeValue → NodeValue) (own given : Reply)
    (u : WorldValue) : Type 0 where
  pub reply : given ≡ own
  pub nodes : NodeChanges v.nodes node become u.nodes
  pub operations : u.operations ≡ v.operations ++ issued_by own
  pub messages : u.messages ≡ v.messages ++ shipped_by own
