pub mod Counting
pub mod TestedWalks
pub mod MergedPairs
pub mod Decisions
pub mod Laws
pub mod Working
