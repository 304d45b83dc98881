pub mod Tree
pub mod Merged
pub mod Rest
pub mod Put
pub mod Union
