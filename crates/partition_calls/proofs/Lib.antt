pub mod Sayings
pub mod Determined
pub mod OneResult
pub mod Theorems
