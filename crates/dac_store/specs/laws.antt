pub mod AtDot
pub mod DotSets
pub mod SameDots
pub mod Stores
pub mod DotFuns
pub mod DotMaps
