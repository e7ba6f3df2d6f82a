pub mod Machine
pub mod Blocks
