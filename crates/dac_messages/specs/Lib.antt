pub mod Bodies
pub use Rattle.dac_state.specs.StateSpelling
pub use Rattle.dac_state.specs.StateValue
