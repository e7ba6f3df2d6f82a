pub mod Functions
pub mod Reduced
pub mod Operations
pub mod Laws
pub mod Working
