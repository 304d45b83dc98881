pub mod Branching
pub mod Visiting
