pub mod Rules
pub mod Rounds
pub mod Placed
pub mod Settling
pub mod Staying
pub mod Worked
pub mod WorkedMove
pub mod WorldRounds
pub mod WorkedLoss
pub mod WorkedDrain
pub mod AtRest
pub mod WorkedShare
pub mod laws
pub use Rattle.dac_model_world.specs as dac_model_world
