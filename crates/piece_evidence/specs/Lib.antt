pub mod Sections
pub mod Faults
pub mod Readings
pub mod Laws
pub mod Working
