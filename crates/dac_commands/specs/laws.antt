pub mod Counters
pub mod Standing
pub mod Terms
pub mod Written
