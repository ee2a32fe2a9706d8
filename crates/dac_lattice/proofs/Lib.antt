mod JoinLemmas
mod Putting
pub mod MergeLemmas
pub mod SearchLemmas
