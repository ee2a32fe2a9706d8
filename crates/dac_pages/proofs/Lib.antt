pub mod Ready
pub mod Places
