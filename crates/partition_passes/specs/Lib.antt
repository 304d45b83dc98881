pub mod Passes
pub mod Invariants
