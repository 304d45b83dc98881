pub mod Marked
pub mod Divide
pub mod Steps
pub mod Division
