pub mod Fits
pub mod LineViews
pub mod LineChecks
