pub use Rattle.dac_wishes.specs.laws.Permitted
pub use Rattle.dac_wishes.specs.laws.Wished
pub use Rattle.dac_wishes.specs.laws.Drained
