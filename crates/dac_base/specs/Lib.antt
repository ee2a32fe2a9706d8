pub mod Ids
pub mod Limits
pub mod laws
