pub mod Common
pub mod Names
pub mod Tables
pub mod Numbers
pub mod Gaining
pub mod Writes
pub mod Again
mod Alike
mod Places
