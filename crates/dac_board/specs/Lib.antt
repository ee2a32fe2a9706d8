pub mod Boards
pub mod Rows
pub mod Touched
pub mod Grown
pub mod Alike
pub mod Settled
pub mod Marks
