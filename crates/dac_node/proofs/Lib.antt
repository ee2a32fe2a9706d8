pub mod Common
pub mod Knows
pub mod Effects
pub mod Ticks
pub mod Tests
