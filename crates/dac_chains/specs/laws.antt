pub mod Live
pub mod InWords
pub mod Claims
pub mod Lives
pub mod Greatest
pub mod Hows
