pub mod Common
pub mod Apart
pub mod Calls
pub mod Pages
pub mod Seats
