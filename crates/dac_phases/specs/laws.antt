pub mod Common
pub mod Spoken
