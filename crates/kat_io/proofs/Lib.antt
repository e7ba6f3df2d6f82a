pub mod Sent
pub mod Entries
pub mod Counted
pub mod Limits
