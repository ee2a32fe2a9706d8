pub mod Bytes
pub mod Gaps
pub mod Texts
pub mod Word
