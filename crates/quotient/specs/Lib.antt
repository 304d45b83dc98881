pub mod Naive
pub mod Call
