pub mod IdEntries
pub mod Walking
pub mod Counting
