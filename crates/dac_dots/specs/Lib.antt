pub mod DotFilters
pub mod Rows
pub mod Entries
pub mod Spans
pub mod News
pub mod Walking
pub mod laws
