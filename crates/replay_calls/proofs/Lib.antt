pub mod Numbering
pub mod Theorems
