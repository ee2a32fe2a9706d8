mod Keeping
mod Levels
mod Few
mod Joining
mod Listing
mod Copying
mod Intervals
