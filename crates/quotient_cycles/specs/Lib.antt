pub mod Reordered
pub mod Call
