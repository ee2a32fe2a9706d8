mod Common
mod Places
mod Running
mod Passing
mod Staying
mod Lines
mod Groups
