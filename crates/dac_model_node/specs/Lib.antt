pub mod NodeValue
pub mod ModelNode
pub mod EventRefusals
pub mod Transitions
pub mod Step
pub mod Accepted
pub mod Shipping
pub mod Hearing
pub mod Refused
pub mod RefusedInOrder
pub mod Writing
pub mod Keeping
pub mod Dropping
pub mod Effect
pub mod Again
pub mod HeldBack
pub mod Gates
pub mod laws
pub use Rattle.dac_peers.specs.Peers
pub use Rattle.dac_peers.specs.declared.positions.Position
pub use Rattle.dac_ticks.specs.Issued
pub use Rattle.dac_ticks.specs.Ticks
pub use Rattle.dac_ticks.specs as dac_ticks
pub use Rattle.dac_commands.specs as dac_commands
