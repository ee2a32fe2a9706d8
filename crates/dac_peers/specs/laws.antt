pub mod Common
pub mod Least
pub mod Onward
pub mod Acked
pub mod Owed
pub mod Shipping
pub mod Within
