pub mod Ranks
pub mod Placement
pub mod InWords
pub mod Choices
pub mod laws
pub use Rattle.dac_state.specs.StateValue
