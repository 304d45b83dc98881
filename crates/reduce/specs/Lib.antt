pub mod Held
pub mod Line
