pub mod Absorption
pub mod Operations
