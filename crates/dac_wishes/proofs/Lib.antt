pub mod Found
pub mod Naming
pub mod WishStoring
pub mod VoteStoring
pub mod DeltaStoring
pub mod StandingStoring
pub mod Covered
pub mod Walks
