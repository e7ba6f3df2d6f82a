pub mod Visits
pub mod IdWalks
pub mod Walking
