pub mod Commands
pub mod Causes
pub mod Written
pub mod laws
