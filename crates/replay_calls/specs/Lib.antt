pub mod Families
pub mod Operations
pub mod Slices
