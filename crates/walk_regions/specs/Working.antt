pub mod Querying
pub mod StoredTests
