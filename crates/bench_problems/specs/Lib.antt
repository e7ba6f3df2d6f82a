pub mod Generator
pub mod Working
