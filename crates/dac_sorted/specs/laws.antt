pub mod Appending
pub mod Parted
