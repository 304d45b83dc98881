pub mod Pairs
pub mod Subset
pub mod Lists
