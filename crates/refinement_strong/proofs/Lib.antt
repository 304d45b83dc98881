pub mod Bisimulations
pub mod Quotients
pub mod Reductions
pub mod Again
pub mod Theorems
pub mod Hasty
