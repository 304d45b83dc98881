pub mod Closure
pub mod Promise
pub mod Inner
pub mod Listed
