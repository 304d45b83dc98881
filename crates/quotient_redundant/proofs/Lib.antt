pub mod Redundancy
pub mod Testing
pub mod Remaining
pub mod Theorems
pub mod Examples
pub mod Determined
pub mod OneResult
