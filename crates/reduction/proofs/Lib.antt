pub mod Ends
pub mod Entries
pub mod Calls
pub mod Theorems
pub mod OfCalls
pub mod Determined
pub mod OneResult
