pub mod PassLaws
pub mod Theorems
