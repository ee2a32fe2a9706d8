pub mod Loops
pub mod Found
pub mod Within
pub mod Texts
