pub mod Bottom
pub mod Chosen
pub mod Call
