pub mod Redundant
pub mod Call
