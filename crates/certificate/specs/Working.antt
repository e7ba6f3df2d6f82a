pub mod Writings
pub mod Readings
