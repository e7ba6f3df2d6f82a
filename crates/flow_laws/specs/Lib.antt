pub mod SortedMatches
pub mod MatchNames
pub mod GraphOutcomes
pub mod Laws
