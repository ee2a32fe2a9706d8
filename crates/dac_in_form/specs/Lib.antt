pub mod InForm
pub mod HeldForm
pub mod Issued
pub mod ReadAgain
pub mod WorkedState
pub mod WorkedRun
