pub mod Validity
pub mod Statements
pub mod Steps
pub mod Paths
pub mod Logs
pub mod Meanings
pub mod Laws
pub mod Working
