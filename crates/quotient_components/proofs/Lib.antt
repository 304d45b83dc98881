pub mod Components
pub mod Numbering
pub mod Calls
pub mod Theorems
pub mod Examples
pub mod Determined
pub mod OneResult
