pub mod Kept
pub mod Posed
