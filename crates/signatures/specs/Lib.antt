pub mod Pairs
pub mod Signing
pub mod Strong
pub mod Inductive
pub mod TauHat
