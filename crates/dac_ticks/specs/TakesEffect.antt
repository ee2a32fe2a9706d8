-- The effect of an accepted command, in the state that its operation leaves.
use Rattle.std.specs.Prelude.{◌≡◌, ◌↔◌, ℕ, true, [], ◌∷◌, None}
use Rattle.dac_base.specs.declared.NodeId.{NodeId}
use Rattle.dac_origins.specs.declared.dot.Origin.{Origin}
use Rattle.dac_chains.specs.Lives.{IsLive}
use Rattle.dac_meaning.specs.StateValue.{StateValue, IsState, join}
use Rattle.dac_meaning.specs.Meaning.{meaning_of}
use Rattle.dac_config.specs.Table.{Table}
use Rattle.dac_placement.specs.Placement.{key_at, IsPermittedAt, IsStartedAt, IsDrainedAt, RunsAt}
use Rattle.dac_events.specs.declared.Command.{Command}
use Rattle.dac_events.specs.declared.Command.TheVariants.{Down, Permit, Start, Stop, Drain, Takeover}
use Rattle.dac_commands.specs.Commands.{next_operation, act_of}
use Rattle.dac_commands.specs.Causes.{refusal_of_command}

-- the node is live, and P holds of its live incarnation
abbrev pub AtLive : StateValue → NodeId → (ℕ → Type 0) → Type 0
AtLive s node P = (inc : ℕ) × (IsLive s.lives node inc × P inc)

-- The effect of each command. After a Down no incarnation of the node is live. At the node's live incarnation the
-- application is permitted exactly when the permit's value is true, is started after a start, and isn't after a stop.
-- That incarnation is drained exactly when the drain's value is true. After a takeover the application runs at this
-- node.
abbrev pub TakesEffect : Table → Origin → StateValue → Command → Type 0
TakesEffect t own left (Down node) = (inc : ℕ) → ¬ IsLive left.lives node inc
TakesEffect t own left (Permit app node value) =
    AtLive left node (λ inc. IsPermittedAt t left (key_at app node inc) ↔ (value ≡ true))
TakesEffect t own left (Start app node) = AtLive left node (λ inc. IsStartedAt left (key_at app node inc))
TakesEffect t own left (Stop app node) = AtLive left node (λ inc. ¬ IsStartedAt left (key_at app node inc))
TakesEffect t own left (Drain node value) = AtLive left node (λ inc. IsDrainedAt left node inc ↔ (value ≡ true))
TakesEffect t own left (Takeover app) = RunsAt t left app own.node

-- each accepted command has its effect after its operation is joined
abbrev pub CommandsTakeEffect : Type 0
CommandsTakeEffect =
    (t : Table) (own : Origin) (s : StateValue) (c : Command) → IsState s → refusal_of_command t own s c ≡ None
    → TakesEffect t own (join s (meaning_of (next_operation s own (act_of t s c) ∷ []))) c
