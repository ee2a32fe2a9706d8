pub mod After
pub mod Changes
pub mod ByDots
pub mod Outcomes
