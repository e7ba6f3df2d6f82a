pub mod MatchViews
pub mod Tables
pub mod Outcomes
pub mod Working
