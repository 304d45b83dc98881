pub mod Writes
pub mod Refusing
pub mod Digits
pub mod Theorems
pub mod Examples
pub mod Determined
pub mod OneResult
