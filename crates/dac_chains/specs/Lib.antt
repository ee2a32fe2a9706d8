pub mod Greatest
pub mod Kept
pub mod Lives
pub mod Claims
pub mod Orders
pub mod laws
