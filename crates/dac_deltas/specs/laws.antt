pub mod Logs
pub mod Numbers
pub mod Joins
