pub mod ComingUp
pub mod RoundOfTwo
pub mod Handed
pub mod Losing
pub mod FailsOver
pub mod Moves
pub mod Shared
