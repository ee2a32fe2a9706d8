pub mod Changes
pub mod Latest
