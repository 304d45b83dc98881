pub mod Walks
pub mod Returns
pub mod Choosing
pub mod Chosen
pub mod Theorems
pub mod Calls
pub mod Determined
pub mod OneResult
