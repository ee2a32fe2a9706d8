pub mod Letters
pub mod Relay
