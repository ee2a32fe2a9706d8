mod Common
mod Followed
mod Joined
mod Passed
mod Repeated
