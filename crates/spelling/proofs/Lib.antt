pub mod Spelled
pub mod Writing
pub mod Putting
pub mod Counting
pub mod Theorems
