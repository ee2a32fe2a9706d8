pub mod KeyLaws
pub mod Dots
pub mod InOrder
pub mod Bools
pub mod Basics
