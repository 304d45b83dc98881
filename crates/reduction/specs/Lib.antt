pub mod Answers
pub mod Reducing
