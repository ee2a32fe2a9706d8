pub mod FailoverWait
pub mod Quiet
pub mod StartGate
pub mod InWords
pub mod laws
pub use Rattle.dac_placement.specs.Placement
pub use Rattle.dac_placement.specs.declared.verdicts.Verdict
