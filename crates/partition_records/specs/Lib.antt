pub mod Unmark
pub mod Records
pub mod Tables
