pub mod Texts
pub mod Listed
pub mod Theorems
