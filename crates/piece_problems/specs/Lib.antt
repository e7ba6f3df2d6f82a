pub mod Questions
pub mod MatchedBlocks
pub mod Outcomes
pub mod Laws
pub mod Working
