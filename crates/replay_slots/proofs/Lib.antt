pub mod Parts
pub mod Showing
