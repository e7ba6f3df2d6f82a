pub mod Readings
pub mod Writings
pub mod Quantified
pub mod Checks
pub mod Sets
