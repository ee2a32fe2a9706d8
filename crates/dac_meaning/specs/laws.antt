pub mod StateLaws
pub mod Members
pub mod Readers
pub mod Joins
pub mod Below
pub mod Chained
pub mod Tables
