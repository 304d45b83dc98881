pub mod Components
pub mod Call
pub mod Numbering
