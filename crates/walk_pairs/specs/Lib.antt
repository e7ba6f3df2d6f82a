pub mod Items
pub mod Outputs
pub mod Covered
pub mod IdSets
pub mod StoredPairs
pub mod ClosedTerms
pub mod Needed
pub mod Numbering
