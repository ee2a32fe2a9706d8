pub mod ReadRows
pub mod WrittenRows
