pub mod Picks
pub mod Theorems
pub mod Answering
pub mod Calls
pub mod Determined
pub mod OneResult
