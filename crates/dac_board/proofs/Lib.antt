mod Filling
mod Untouched
mod Shown
mod Kept
mod Walks
mod Stays
