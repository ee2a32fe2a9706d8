pub mod Written
pub mod Shape
pub mod Limits
pub mod Within
pub mod Grammar
pub mod Loose
pub mod Views
pub mod laws
