pub mod Membership
pub mod Alone
pub mod Nothing
pub mod KeysOfMeaning
mod PieceParts
pub mod Outweighed
