pub mod OneBlock
pub mod AllBlocks
pub mod Rooms
pub mod Steps
pub mod Theorems
