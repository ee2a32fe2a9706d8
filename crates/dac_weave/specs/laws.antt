pub mod Common
pub mod Members
pub mod Runs
pub mod Complete
pub mod Recorded
