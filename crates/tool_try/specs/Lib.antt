pub mod TryTexts
pub mod Try
pub mod TryWith
pub mod Questions
pub mod Working
