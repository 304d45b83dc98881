pub mod Writing
pub mod Display
