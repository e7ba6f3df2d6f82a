pub mod Scopes
pub mod Numbers
pub mod Walks
pub mod States
pub mod NumberSteps
pub mod Files
pub mod Followed
