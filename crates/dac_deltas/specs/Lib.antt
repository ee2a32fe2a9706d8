pub mod KeptDeltas
pub mod Blocks
pub mod BlockEnds
pub mod Logs
pub mod Numbers
pub mod laws
