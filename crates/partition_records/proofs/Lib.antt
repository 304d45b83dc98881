pub mod Fields
pub mod Agreeing
pub mod Forms
pub mod Theorems
pub mod Determined
pub mod OneResult
