pub mod Passing
mod ChunkLemmas
mod EntryLemmas
mod JoinLemmas
mod BelowLemmas
mod CausalLemmas
