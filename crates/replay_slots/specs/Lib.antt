pub mod Parts
pub mod Cases
pub mod Sizes
pub mod Shown
pub mod Kinds
