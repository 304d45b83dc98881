pub mod Ties
pub mod Done
pub mod Theorems
pub mod OfCalls
pub mod Examples
pub mod Determined
pub mod OneResult
