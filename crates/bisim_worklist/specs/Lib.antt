pub mod StoredTerms
pub mod Working
