pub mod Goals
pub mod Found
