pub mod Phases
pub mod Placed
pub mod Texts
pub mod Faults
pub mod Endings
pub mod Runs
pub mod Lives
pub mod Recordings
pub mod Records
pub use Rattle.dac_play.specs as dac_play
pub use Rattle.dac_script.specs as dac_script
