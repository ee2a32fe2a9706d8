pub mod Dots
pub mod InOrder
pub mod Keys
pub mod laws
