pub mod Appending
pub mod Digests
pub mod Chunks
pub mod Parts
pub mod Kept
pub mod Joining
pub mod laws
