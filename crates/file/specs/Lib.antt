pub mod Layout
pub mod Bytes
pub mod Input
pub mod Output
pub mod Decoded
