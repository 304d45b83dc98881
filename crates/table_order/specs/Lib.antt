pub mod Order
pub mod Call
pub mod Promise
pub mod Machine
pub mod Turn
