pub mod Peers
pub mod Newest
pub mod Pending
pub mod InWords
pub mod laws
