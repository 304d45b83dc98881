pub mod Wholes
pub mod Theorems
