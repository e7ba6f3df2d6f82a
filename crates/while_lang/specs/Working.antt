pub mod Running
pub mod Appending
