pub mod Going
pub use Rattle.dac_model_world.specs.laws.Histories
pub use Rattle.dac_model_world.specs.laws.Memory
pub use Rattle.dac_model_world.specs.laws.Runs
pub use Rattle.dac_model_world.specs.laws.Staying
pub use Rattle.dac_model_world.specs.laws.Steps
