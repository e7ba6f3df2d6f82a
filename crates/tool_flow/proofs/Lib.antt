pub mod Nestings
pub mod FoundProblems
pub mod Printability
