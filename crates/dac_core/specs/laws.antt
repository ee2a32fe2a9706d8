pub use Rattle.dac_settle.specs.dac_model_world.laws.EveryList
pub use Rattle.dac_settle.specs.dac_model_world.laws.Headline
