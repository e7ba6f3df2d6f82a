pub mod TakenFiles
pub mod TrialStores
pub mod Questions
pub mod TryReplies
