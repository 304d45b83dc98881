pub mod Sorted
pub mod Taking
pub mod Joining
