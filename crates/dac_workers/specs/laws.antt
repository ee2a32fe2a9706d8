pub mod Common
pub mod Found
