pub mod Summaries
pub mod Kept
pub mod Walks
pub mod Texts
pub mod Chains
