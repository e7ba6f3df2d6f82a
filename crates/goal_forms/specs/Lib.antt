pub mod Capped
pub mod TestTerms
pub mod HypothesisForms
pub mod Broken
pub mod Queried
pub mod Sides
pub mod ClosedTrees
pub mod Laws
