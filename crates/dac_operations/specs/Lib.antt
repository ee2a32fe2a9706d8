pub mod Operations
pub mod Seen
